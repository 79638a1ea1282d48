-- What a reply can say, and the line that says it.
use Rattle.std.specs.Prelude.{ℕ, ◌/◌, ◌%◌, cond, List, [], ◌∷◌, length, Err, Result, nat_lt}
use Rattle.std.specs.List.{flat_map}
use Rattle.lines.specs.declared.refusal.WriteRefusal.{WriteRefusal}
use Rattle.lines.specs.declared.refusal.WriteRefusal.TheVariants.{ListTooLong}
use Rattle.lines.specs.Digits.{digits, two}
use Rattle.lines.specs.Pages.{placing}

pub data Answer : Type 0 where
  -- a carrier, a stop, a precedence or a striking is accepted, with the number that the call answers
  accepted : ℕ → Answer
  -- a judging passes, with the arrivals by stop number
  passed : List ℕ → Answer
  -- a judging finds a ring, with its stops
  ring : List ℕ → Answer
  -- any other refusal, with its number and two fields for what it tells
  refused : ℕ → ℕ → ℕ → Answer

-- a number in two bytes, the high byte first
abbrev pub pair : ℕ → List ℕ
pair n = two n []

-- a number in four bytes, the high byte first
abbrev pub four : ℕ → List ℕ
four n = n / 16777216 % 256 ∷ n / 65536 % 256 ∷ n / 256 % 256 ∷ n % 256 ∷ []

-- a first byte, how many numbers are listed, and each of them
abbrev pub listed : {N : Type 0} → ℕ → (N → List ℕ) → List N → List ℕ
listed code f numbers = code ∷ two (length numbers) (flat_map f numbers)

abbrev pub bytes_of : Answer → List ℕ
bytes_of (accepted number) = 0 ∷ two number []
bytes_of (passed arrivals) = listed 0 four arrivals
bytes_of (ring stops) = listed 17 pair stops
bytes_of (refused number first second) = number ∷ two first (two second [])

-- the line of an answer
unfoldable pub line_of : Answer → List ℕ
line_of a = digits (bytes_of a)

-- how many numbers an answer lists
abbrev pub count : Answer → ℕ
count (accepted number) = 0
count (passed arrivals) = length arrivals
count (ring stops) = length stops
count (refused number first second) = 0

-- how many bytes are written where the line of an answer is to go into a page from a position on; a list of more than
-- 65,535 numbers has none, as its count does not fit two bytes
abbrev pub writing : List ℕ → ℕ → Answer → Result ℕ WriteRefusal
writing page at a = cond (nat_lt 65535 (count a)) (Err ListTooLong) (placing page at (line_of a))
