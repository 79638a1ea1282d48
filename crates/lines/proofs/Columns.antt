-- The column of the first byte that is no digit.
use Rattle.std.proofs.Common.{◌≡◌, ◌↔◌, ℕ, ◌<◌, ◌≤◌, Bool, true, false, cond, ltb, List, length, get_or, is_none, Ok, Err, Result, sym, ap, ◌∙◌, subst, arith}
use Rattle.std.proofs.lemmas.Bool.{ltb-true, ltb-false, lt-ltb, both_ways, true_from_ne_false}
use Rattle.std.proofs.lemmas.Bool.Decides.{nat_tests}
use Rattle.std.proofs.lemmas.List.Sums.{passes_at_first, fails_before_first, position_or_len_is}
use Rattle.lines.specs.declared.entry.Entry.{Entry}
use Rattle.lines.specs.declared.entry.Input.{Input}
use Rattle.lines.specs.declared.refusal.LineRefusal.{LineRefusal}
use Rattle.lines.specs.declared.refusal.LineRefusal.TheVariants.{BadDigit, BadLength, UnknownKind, BadRule}
use Rattle.lines.specs.Digits.{value_of, first_bad, IsDigit, FirstBad, line_bytes}
use Rattle.lines.specs.Reading.{empty_or_odd, unknown_kind, wrong_length, bad_rule, entry_of, reading}
use Rattle.lines.proofs.Readings.{bad_line}

is_digit : (b : ℕ) → is_none (value_of b) ≡ false → IsDigit b
is_digit b h = grind (arith, nat_tests)

has_value : (b : ℕ) → IsDigit b → is_none (value_of b) ≡ false
has_value b d = grind (arith, nat_tests)

first_bad_is : (line : List ℕ) → first_bad line < length line → FirstBad line (first_bad line)
first_bad_is line h = (
  h,
  λ d. both_ways (is_none (value_of (get_or line (first_bad line) 0))) (has_value (get_or line (first_bad line) 0) d) (passes_at_first (λ b. is_none (value_of b)) line 0 h),
  λ k l. is_digit (get_or line k 0) (fails_before_first (λ b. is_none (value_of b)) line k 0 l),
)

first_bad_only : (line : List ℕ) (c : ℕ) → FirstBad line c → first_bad line ≡ c
first_bad_only line c h =
    position_or_len_is (λ b. is_none (value_of b)) line c 0 (omega (arith, h.0)) (λ k l. has_value (get_or line k 0) (h.2 k l)) (λ _. true_from_ne_false (is_none (value_of (get_or line c 0))) (λ f. h.1 (is_digit (get_or line c 0) f)))

-- only the second of the six checks refuses a bad digit
second : (a b d f g i : Bool) (n c : ℕ) (e : Entry) → cond a (Err BadLength) (cond b (Err (BadDigit n)) (cond d (Err BadLength) (cond f (Err UnknownKind) (cond g (Err BadLength) (cond i (Err BadRule) (Ok e)))))) ≡ Err (BadDigit c) → (a ≡ false) × (b ≡ true) × (n ≡ c)
second a b d f g i n c e h = grind arith

there : (input : Input) (line : List ℕ) (c : ℕ) → reading input line ≡ Err (BadDigit c) → (length line ≤ 64) × FirstBad line c
unfolding reading
there input line c h =
    let bs = line_bytes line in
    let bad = first_bad line in
    let p = second (ltb 64 (length line)) (ltb bad (length line)) (empty_or_odd line).applies (unknown_kind input bs).applies (wrong_length bs).applies (bad_rule bs).applies bad c (entry_of bs) h in
    (ltb-false 64 (length line) p.0, subst (FirstBad line) p.2 (first_bad_is line (ltb-true bad (length line) p.1)))

-- what follows for an answer that is the reading of a line
pub of_column : (input : Input) (line : List ℕ) (r : Result Entry LineRefusal) → r ≡ reading input line → (c : ℕ) → (r ≡ Err (BadDigit c)) ↔ ((length line ≤ 64) × FirstBad line c)
of_column input line r s c = (
  λ h. there input line c (sym s ∙ h),
  λ h. let e = first_bad_only line c h.1 in s ∙ sym (bad_line input line h.0 (lt-ltb (first_bad line) (length line) (omega (arith, h.1)))) ∙ ap (λ (n : ℕ). Err (BadDigit n)) e,
)
