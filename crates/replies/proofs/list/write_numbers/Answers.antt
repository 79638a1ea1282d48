use Rattle.std.proofs.Common.{◌≡◌, ℕ, ◌*◌, List, ◌++◌, length, subst, rules}
use Rattle.std.proofs.lemmas.List.Elements.{All-more}
use Rattle.lines.specs.Digits.{digits}
use Rattle.lines.specs.Pages.{placing}
use Rattle.replies.proofs.Listing.{step}
use Rattle.replies.proofs.list.write_numbers.Goals as goal

pub loop-number-preserved : goal.loop-number-preserved
loop-number-preserved g c =
    let f = g.N.Listed.bytes in
    let front = g.N.Listed.front in
    let xs = c.args.numbers.now in
    let i = c.loop-number.number-index in
    let x = c.number-item.result in
    let value : c.write_bytes.result ≡ placing c.loop-number.part c.loop-number.at (digits (f x)) = cc in
    let s = step f xs i x c.args.part.now c.loop-number.part c.write_bytes.new.page c.loop-number.at c.write_bytes.result (search rules) c.number-item.is c.requires.room c.loop-number.invariant.at c.loop-number.invariant.part value (search rules) in
    let k = c.in_ok-at.was in
    let q : c.in_ok-at.field-0 ≡ 2 * length (f x) = cc in
    let P : g.row.N.Denot → Type 0 = λ y. (rest : List ℕ) → front (f y ++ rest) ≡ y in
    record {
      at = cc;
      part = cc;
      each = All-more P xs i x (search rules) c.loop-number.invariant.each (subst P c.number-item.is c.to_bytes.ensures.back);
    }

pub returns-in_err-at : goal.returns-in_err-at
returns-in_err-at g c =
    let f = g.N.Listed.bytes in
    let x = c.number-item.result in
    let value : c.write_bytes.result ≡ placing c.loop-number.part c.loop-number.at (digits (f x)) = cc in
    let s = step f c.args.numbers.now c.loop-number.number-index x c.args.part.now c.loop-number.part c.write_bytes.new.page c.loop-number.at c.write_bytes.result (search rules) c.number-item.is c.requires.room c.loop-number.invariant.at c.loop-number.invariant.part value (search rules) in
    let k = c.in_err-at.was in
    absurd (cc)
