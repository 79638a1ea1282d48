use Rattle.std.proofs.Common.{◌≡◌, true, false, ltb, length, ap, ◌∙◌, arith, rules}
use Rattle.std.proofs.lemmas.Result.{err_from_is_err_and}
use Rattle.lines.specs.Digits.{first_bad}
use Rattle.lines.specs.Reading.{reading}
use Rattle.lines.proofs.Columns.{of_column}
use Rattle.lines.proofs.Readings.{any_saying, long_line, bad_line, odd_line, even_line}
use Rattle.lines.proofs.RoundTrip.{exactly, of_kept}
use Rattle.lines.proofs.read.read_entry.Goals as goal

pub returns-then-line-gt-MOST_DIGITS : goal.returns-then-line-gt-MOST_DIGITS
returns-then-line-gt-MOST_DIGITS c =
    let input = c.args.input in
    let line = c.args.line.now in
    let s = long_line input line (search rules) in
    record { said = s; exact = exactly input line _ s; column = of_column input line _ s; kept = of_kept input line _ s }

pub returns-in_err-check_digits : goal.returns-in_err-check_digits
returns-in_err-check_digits c =
    let input = c.args.input in
    let line = c.args.line.now in
    let p = err_from_is_err_and c.from_residual.result c.from_residual.ensures.1 in
    let w = c.in_err-check_digits.was in
    let b : ltb (first_bad line) (length line) ≡ true = grind arith in
    let l = bad_line input line (search rules) b in
    let s : c.from_residual.result ≡ reading input line = grind arith in
    record { said = s; exact = exactly input line _ s; column = of_column input line _ s; kept = of_kept input line _ s }

pub returns-then-line-ne0 : goal.returns-then-line-ne0
returns-then-line-ne0 c =
    let input = c.args.input in
    let line = c.args.line.now in
    let w = c.in_ok-check_digits.was in
    let b : ltb (first_bad line) (length line) ≡ false = grind arith in
    let s = odd_line input line (search rules) b (search rules) in
    record { said = s; exact = exactly input line _ s; column = of_column input line _ s; kept = of_kept input line _ s }

pub returns : goal.returns
returns c =
    let input = c.args.input in
    let line = c.args.line.now in
    let w = c.in_ok-check_digits.was in
    let b : ltb (first_bad line) (length line) ≡ false = grind arith in
    let l = even_line input line (search rules) b (search rules) in
    let d = c.deref.ensures.0 ∙ c.decode.ensures in
    let s = c.read_bytes.ensures ∙ ap (any_saying input) d ∙ l in
    record { said = s; exact = exactly input line _ s; column = of_column input line _ s; kept = of_kept input line _ s }
