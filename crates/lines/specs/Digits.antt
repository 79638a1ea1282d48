-- Bytes as capital hexadecimal digits, and numbers as bytes.
use Rattle.std.specs.Prelude.{ℕ, ◌+◌, ◌-◌, ◌*◌, ◌/◌, ◌%◌, ◌<◌, ◌≤◌, cond, ◌&&◌, ◌⊎◌, List, [], ◌∷◌, length, is_none, Some, None, Option, nat_le, nat_lt, slice_index}
use Rattle.std.specs.List.{position_or_len}
use Rattle.std.specs.Option.{unwrap_or}

-- the digit of a value below 16: 0 to 9 and then the capital letters A to F
abbrev pub digit_for : ℕ → ℕ
digit_for v = cond (nat_lt v 10) (48 + v) (55 + v)

-- the value of a digit; any other byte has none
abbrev pub value_of : ℕ → Option ℕ
value_of b = cond (nat_le 48 b && nat_le b 57) (Some (b - 48)) (cond (nat_le 65 b && nat_le b 70) (Some (b - 55)) None)

-- how many digits a line begins with, which is the column, from 0, of its first byte that is no digit
abbrev pub first_bad : List ℕ → ℕ
first_bad line = position_or_len (λ b. is_none (value_of b)) line

-- a byte that is a digit: 0 to 9, or A to F
abbrev pub IsDigit : ℕ → Type 0
IsDigit b = ((48 ≤ b) × (b ≤ 57)) ⊎ ((65 ≤ b) × (b ≤ 70))

-- the byte at a column is the first of the line that is no digit
abbrev pub FirstBad : List ℕ → ℕ → Type 0
FirstBad line c = (c < length line) × (¬ IsDigit (slice_index line c)) × ((k : ℕ) → k < c → IsDigit (slice_index line k))

-- two digits for each byte, the high digit first
abbrev pub digits : List ℕ → List ℕ
digits [] = []
digits (b ∷ bs) = digit_for (b / 16) ∷ digit_for (b % 16) ∷ digits bs

-- the byte of two digits
abbrev pub byte : ℕ → ℕ → ℕ
byte high low = unwrap_or (value_of high) 0 * 16 + unwrap_or (value_of low) 0

-- the bytes that a line of digits stands for
abbrev pub line_bytes : List ℕ → List ℕ
line_bytes [] = []
line_bytes (b ∷ []) = []
line_bytes (high ∷ low ∷ rest) = byte high low ∷ line_bytes rest

-- a number in two bytes, the high byte first, and what follows
abbrev pub two : ℕ → List ℕ → List ℕ
two n rest = n / 256 % 256 ∷ n % 256 ∷ rest
