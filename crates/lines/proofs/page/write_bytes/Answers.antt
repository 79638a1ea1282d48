use Rattle.std.proofs.Common.{◌≡◌, ℕ, ◌*◌, length, Ok, Result, ap, ◌∙◌, arith, rules}
use Rattle.std.proofs.lemmas.Bool.Decides.{nat_tests}
use Rattle.std.proofs.lemmas.List.Elements.{All-from_get_or}
use Rattle.lines.specs.declared.refusal.WriteRefusal.{WriteRefusal}
use Rattle.lines.specs.Digits.{digits, line_bytes}
use Rattle.lines.specs.Pages.{placing}
use Rattle.lines.proofs.Hexadecimal.{IsByte, length_digits, bytes_digits}
use Rattle.lines.proofs.Placing.{landed, placed_there}
use Rattle.lines.proofs.page.write_bytes.Goals as goal

pub returns-then-at-page-clause-value : goal.returns-then-at-page-clause-value
returns-then-at-page-clause-value c = grind (arith, nat_tests, length_digits c.args.bytes.now)

pub returns : goal.returns
returns c =
    let bs = c.args.bytes.now in
    let page = c.args.page.now in
    let at = c.args.at in
    let value : ◌≡◌ {A = Result ℕ WriteRefusal} (Ok (2 * length bs)) (placing page at (digits bs)) = grind (arith, nat_tests, length_digits bs) in
    let after = landed page c.encode.new.part bs at (search rules) c.encode.ensures in
    let small = All-from_get_or IsByte bs 0 (λ i _. omega (arith, c.type_inv.bytes i)) in
    record {
      value = value;
      after = after;
      back = λ n h. ap line_bytes (placed_there page (digits bs) _ at n _ value after h) ∙ bytes_digits bs small;
    }
