-- Bytes and their digits.
use Rattle.std.proofs.Common.{◌≡◌, ℕ, suc, ◌*◌, ◌/◌, ◌%◌, ◌<◌, false, List, [], ◌∷◌, ◌++◌, length, get_or, is_none, Some, unwrap_or, All, refl, ap, subst, arith}
use Rattle.std.proofs.lemmas.Bool.Decides.{nat_tests}
use Rattle.std.proofs.lemmas.List.Elements.{All-nil, All-cons, All-head, All-tail}
use Rattle.lines.specs.Digits.{digit_for, value_of, first_bad, digits, byte, line_bytes}

abbrev pub IsByte : ℕ → Type 0
IsByte b = b < 256

pub length_digits : (bs : List ℕ) → length (digits bs) ≡ 2 * length bs
length_digits [] = refl
length_digits (b ∷ bs) = omega (arith, length_digits bs)

pub digits_append : (xs ys : List ℕ) → digits (xs ++ ys) ≡ digits xs ++ digits ys
digits_append [] ys = refl
digits_append (x ∷ xs) ys = ap (λ t. digit_for (x / 16) ∷ digit_for (x % 16) ∷ t) (digits_append xs ys)

value_digit : (v : ℕ) → v < 16 → value_of (digit_for v) ≡ Some v
value_digit v h = grind (arith, nat_tests)

digit_value : (b : ℕ) → is_none (value_of b) ≡ false → digit_for (unwrap_or (value_of b) 0) ≡ b
digit_value b h = grind (arith, nat_tests)

value_small : (b : ℕ) → unwrap_or (value_of b) 0 < 16
value_small b = grind (arith, nat_tests)

-- the digits of bytes stand for these bytes
pub bytes_digits : (bs : List ℕ) → All IsByte bs → line_bytes (digits bs) ≡ bs
bytes_digits [] h = refl
bytes_digits (b ∷ bs) h =
    let small = All-head IsByte b bs h in
    let rest = bytes_digits bs (All-tail IsByte b bs h) in
    grind (arith, value_digit)

-- and none of them is a bad digit
pub first_bad_digits : (bs : List ℕ) → All IsByte bs → first_bad (digits bs) ≡ length (digits bs)
first_bad_digits [] h = refl
first_bad_digits (b ∷ bs) h =
    let small = All-head IsByte b bs h in
    let rest = first_bad_digits bs (All-tail IsByte b bs h) in
    grind (arith, value_digit)

-- a line of digits is written again from its bytes
pub digits_bytes : (line : List ℕ) → ((k : ℕ) → k < length line → is_none (value_of (get_or line k 0)) ≡ false) → length line % 2 ≡ 0 → digits (line_bytes line) ≡ line
digits_bytes [] h e = refl
digits_bytes (a ∷ []) h e = absurd (omega arith)
digits_bytes (a ∷ b ∷ rest) h e =
    let later = digits_bytes rest (λ k l. h (suc (suc k)) (omega arith)) (omega arith) in
    let small = value_small b in
    let first = digit_value a (h 0 (omega arith)) in
    let second = digit_value b (h 1 (omega arith)) in
    let high : byte a b / 16 ≡ unwrap_or (value_of a) 0 = omega arith in
    let low : byte a b % 16 ≡ unwrap_or (value_of b) 0 = omega arith in
    cc

pub length_bytes : (line : List ℕ) → length (line_bytes line) ≡ length line / 2
length_bytes [] = refl
length_bytes (a ∷ []) = refl
length_bytes (a ∷ b ∷ rest) = omega (arith, length_bytes rest)

pub small_bytes : (line : List ℕ) → All IsByte (line_bytes line)
small_bytes [] = All-nil IsByte
small_bytes (a ∷ []) = All-nil IsByte
small_bytes (a ∷ b ∷ rest) = All-cons IsByte (byte a b) (line_bytes rest) (grind (arith, nat_tests)) (small_bytes rest)

-- what a line stands for are bytes
pub bytes_of_line : (line bs : List ℕ) → line_bytes line ≡ bs → All IsByte bs
bytes_of_line line bs h = subst (All IsByte) h (small_bytes line)
