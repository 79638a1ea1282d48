-- What the bytes of a reply tell whoever asked.
use Rattle.std.specs.Prelude.{ℕ, zero, suc, ◌+◌, ◌*◌, cond, List, [], ◌∷◌, drop, ◌==◌, ◌≢◌, slice_index}
use Rattle.lines.specs.Reading.{first_byte, word}
use Rattle.replies.specs.Answers.{Answer, accepted, passed, ring, refused}

-- what was asked: an entry or a striking, or a judging. Only who knows it can tell a number that is accepted from a pass with no stops
pub data Question : Type 0 where
  entering : Question
  judging : Question

-- the answers that a question gets; the number of a refusal is neither 0, which accepts, nor 17, which is a ring
abbrev pub Suits : Question → Answer → Type 0
Suits entering (accepted number) = Unit {0}
Suits entering (passed arrivals) = ⊥
Suits entering (ring stops) = ⊥
Suits entering (refused number first second) = (number ≢ 0) × (number ≢ 17)
Suits judging (accepted number) = ⊥
Suits judging (passed arrivals) = Unit {0}
Suits judging (ring stops) = Unit {0}
Suits judging (refused number first second) = (number ≢ 0) × (number ≢ 17)

-- the number in the first two bytes, and in the first four
abbrev pub front_two : List ℕ → ℕ
front_two bs = word bs 0

abbrev pub front_four : List ℕ → ℕ
front_four bs = slice_index bs 0 * 16777216 + slice_index bs 1 * 65536 + slice_index bs 2 * 256 + slice_index bs 3

-- so many numbers, each in so many bytes
abbrev pub numbers : ℕ → (List ℕ → ℕ) → ℕ → List ℕ → List ℕ
numbers size front zero bs = []
numbers size front (suc n) bs = front bs ∷ numbers size front n (drop size bs)

-- a reply with the first byte 0
abbrev pub granted : Question → List ℕ → Answer
granted entering bs = accepted (word bs 1)
granted judging bs = passed (numbers 4 front_four (word bs 1) (drop 3 bs))

-- what a reply of these bytes says
unfoldable pub understood : Question → List ℕ → Answer
understood q bs =
    cond (first_byte bs == 0) (granted q bs)
    (cond (first_byte bs == 17) (ring (numbers 2 front_two (word bs 1) (drop 3 bs)))
    (refused (first_byte bs) (word bs 1) (word bs 3)))
