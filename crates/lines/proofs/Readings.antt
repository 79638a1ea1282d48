-- What a line reads as, check by check.
use Rattle.std.proofs.Common.{◌≡◌, ℕ, ◌%◌, ◌<◌, ◌≤◌, true, false, cond, eqb, ltb, List, [], ◌∷◌, length, take, Err, Result, sym, ap, ◌∙◌, ⊎_elim, arith}
use Rattle.std.proofs.lemmas.Bool.{cases_lt}
use Rattle.std.proofs.lemmas.Bool.Decides.{nat_tests}
use Rattle.std.proofs.lemmas.List.{take_all, length-take-le}
use Rattle.lines.specs.declared.entry.Entry.{Entry}
use Rattle.lines.specs.declared.entry.Input.{Input}
use Rattle.lines.specs.declared.refusal.LineRefusal.{LineRefusal}
use Rattle.lines.specs.declared.refusal.LineRefusal.TheVariants.{BadDigit, BadLength}
use Rattle.lines.specs.Digits.{first_bad, line_bytes}
use Rattle.lines.specs.Reading.{entry_of, checked, unknown_kind, wrong_length, bad_rule, reading}
use Rattle.lines.proofs.Hexadecimal.{length_bytes}

-- what bytes say, where there are any
abbrev pub saying : Input → List ℕ → Result Entry LineRefusal
saying input bs = checked (unknown_kind input bs ∷ wrong_length bs ∷ bad_rule bs ∷ []) (entry_of bs)

abbrev pub any_saying : Input → List ℕ → Result Entry LineRefusal
any_saying input bs = cond (eqb (length bs) 0) (Err BadLength) (saying input bs)

module _ (input : Input) (line : List ℕ) where
  pub long_line : 64 < length line → Err BadLength ≡ reading input line
  unfolding reading
  long_line h = grind (arith, nat_tests)

  pub bad_line : length line ≤ 64 → ltb (first_bad line) (length line) ≡ true → Err (BadDigit (first_bad line)) ≡ reading input line
  unfolding reading
  bad_line h b = grind (arith, nat_tests)

  pub odd_line : length line ≤ 64 → ltb (first_bad line) (length line) ≡ false → length line % 2 ≡ 1 → Err BadLength ≡ reading input line
  unfolding reading
  odd_line h b o = grind (arith, nat_tests)

  pub even_line : length line ≤ 64 → ltb (first_bad line) (length line) ≡ false → length line % 2 ≡ 0 → any_saying input (line_bytes line) ≡ reading input line
  unfolding reading
  even_line h b o = grind (arith, nat_tests, length_bytes)

-- the first 65 bytes of a line read as the whole line does
pub reading_kept : (input : Input) (line : List ℕ) → reading input (take 65 line) ≡ reading input line
reading_kept input line =
    ⊎_elim
    (λ long. let l = length-take-le 65 line (omega arith) in sym (long_line input (take 65 line) (omega arith)) ∙ long_line input line (omega arith))
    (λ short. ap (reading input) (take_all 65 line short))
    (cases_lt 65 (length line))
