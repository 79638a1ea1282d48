use Rattle.std.proofs.Common.{◌≡◌, ◌+◌, ◌-◌, ◌<◌, [], ◌∷◌, length, get_or, drop, ap, ◌∙◌, mul_assoc, arith, rules}
use Rattle.std.proofs.lemmas.List.{length-take-le, length-drop}
use Rattle.lines.specs.Digits.{two, digits, line_bytes}
use Rattle.lines.proofs.Hexadecimal.{bytes_digits}
use Rattle.lines.proofs.Placing.{placed_there}
use Rattle.replies.specs.Answers.{listed}
use Rattle.replies.proofs.Listing.{length_joined, too_short, fitting, counting, small_listed, both_written}
use Rattle.replies.proofs.list.write_list.Goals as goal

pub returns-then-at-page-clause-value : goal.returns-then-at-page-clause-value
returns-then-at-page-clause-value g c =
    let few : length c.args.numbers.now < 65536 = c.in-Ok.ensures.0 in
    too_short g.N.Listed.bytes g.row.SIZE g.met.N.Listed.sized c.args.code c.args.numbers.now c.args.page.now c.args.at few (search rules)

pub write_numbers-requires : goal.write_numbers-requires
write_numbers-requires g c =
    let xs = c.args.numbers.now in
    let page = c.write_bytes.new.page in
    let j = length_joined g.N.Listed.bytes g.row.SIZE g.met.N.Listed.sized xs in
    let m = mul_assoc 2 g.row.SIZE (length xs) in
    let d = length-drop (c.args.at + 6) page in
    let t = length-take-le (length page - (c.args.at + 6)) (drop (c.args.at + 6) page) (omega arith) in
    record { room = omega arith }

pub returns : goal.returns
returns g c =
    let f = g.N.Listed.bytes in
    let size = g.row.SIZE in
    let sized = g.met.N.Listed.sized in
    let code = c.args.code in
    let xs = c.args.numbers.now in
    let page = c.args.page.now in
    let at = c.args.at in
    let few : length xs < 65536 = c.in-Ok.ensures.0 in
    let n : c.in-Ok.count ≡ length xs = c.in-Ok.ensures.1 in
    let b : code ∷ get_or c.to_be_bytes.result 0 0 ∷ get_or c.to_be_bytes.result 1 0 ∷ [] ≡ code ∷ two (length xs) [] = search rules in
    let value = fitting f size sized code xs page at few (search rules) in
    let after = both_written f size sized code xs page at few _ c.write_bytes.new.page c.write_numbers.new.part (omega arith) b c.in_ok-write_bytes.ensures.after c.write_numbers.ensures.after in
    let small = small_listed f size sized code xs page at few (omega (arith, c.ranges.code)) g.met.N.Listed.small in
    record {
      value = value ∙ counting f size sized code xs page at few;
      after = after;
      back = λ k h. ap line_bytes (placed_there page (digits (listed code f xs)) _ at k _ value after h) ∙ bytes_digits (listed code f xs) small;
      each = λ _ _. c.write_numbers.ensures.each;
    }
