-- What a line reads as: the checks in their order, and the entry if none applies.
use Rattle.std.specs.Prelude.{ℕ, ◌+◌, ◌*◌, ◌%◌, Bool, cond, not, ◌&&◌, ◌||◌, List, [], ◌∷◌, length, Ok, Err, Result, ◌==◌, nat_le, nat_lt, slice_index}
use Rattle.lines.specs.declared.entry.Entry.{Entry}
use Rattle.lines.specs.declared.entry.Entry.TheVariants.{Carrier, Stop, Precedence, Strike, Judge, Lane}
use Rattle.lines.specs.declared.entry.Input.{Input}
use Rattle.lines.specs.declared.refusal.LineRefusal.{LineRefusal}
use Rattle.lines.specs.declared.refusal.LineRefusal.TheVariants.{BadDigit, BadLength, UnknownKind, BadRule}
use Rattle.lines.specs.Digits.{first_bad, line_bytes}
use Rattle.lines.specs.Entries.{has}
use Rattle.yard.specs.declared.rules.Rule.{Rule}
use Rattle.yard.specs.declared.rules.Rule.TheVariants.{FullLane, LaneLessOne, FixedGap}

-- the number in two bytes from an index on
abbrev pub word : List ℕ → ℕ → ℕ
word bs i = slice_index bs i * 256 + slice_index bs (1 + i)

-- the first byte
abbrev pub first_byte : List ℕ → ℕ
first_byte bs = slice_index bs 0

-- how many bytes a line of a kind has
abbrev pub size_of : ℕ → ℕ
size_of k = cond (k == 6) 7 (cond (k == 2 || k == 5) 4 5)

-- a rule byte and a gap that no rule has
abbrev pub unruled : ℕ → ℕ → Bool
unruled rule gap = nat_lt 2 rule || (nat_lt 36000 gap || (not (gap == 0) && nat_le rule 1))

-- a check: when it applies, and the refusal that it then gives
pub record Check : Type 0 where
  pub applies : Bool
  pub refusal : LineRefusal

-- the line has more than 64 bytes
abbrev pub too_long : List ℕ → Check
too_long line = record { applies = nat_lt 64 (length line); refusal = BadLength }

-- some byte is no digit
abbrev pub bad_digit : List ℕ → Check
bad_digit line = record { applies = nat_lt (first_bad line) (length line); refusal = BadDigit (first_bad line) }

-- the line is empty, or has an odd number of digits
abbrev pub empty_or_odd : List ℕ → Check
empty_or_odd line = record { applies = length line == 0 || (length line % 2 == 1); refusal = BadLength }

-- the first byte is no kind that the input has
abbrev pub unknown_kind : Input → List ℕ → Check
unknown_kind input bs = record { applies = not (has input (first_byte bs)); refusal = UnknownKind }

-- the line does not have the length of its kind
abbrev pub wrong_length : List ℕ → Check
wrong_length bs = record { applies = not (length bs == size_of (first_byte bs)); refusal = BadLength }

-- a judging has a rule byte and a gap that no rule has
abbrev pub bad_rule : List ℕ → Check
bad_rule bs = record { applies = first_byte bs == 5 && unruled (slice_index bs 1) (word bs 2); refusal = BadRule }

-- the checks in their order
abbrev pub checks : Input → List ℕ → List Check
checks input line = too_long line ∷ bad_digit line ∷ empty_or_odd line ∷ unknown_kind input (line_bytes line) ∷ wrong_length (line_bytes line) ∷ bad_rule (line_bytes line) ∷ []

-- the refusal of the first check that applies, or the entry if none does
abbrev pub checked : List Check → Entry → Result Entry LineRefusal
checked [] e = Ok e
checked (c ∷ cs) e = cond c.applies (Err c.refusal) (checked cs e)

-- the rule of a rule byte and a gap
abbrev pub rule_of : ℕ → ℕ → Rule ℕ
rule_of rule gap = cond (rule == 0) FullLane (cond (rule == 1) LaneLessOne (FixedGap gap))

-- the entry of a kind and its fields
abbrev pub entry_of : List ℕ → Entry
entry_of bs =
    cond (first_byte bs == 1) (Carrier (word bs 1) (word bs 3))
    (cond (first_byte bs == 2) (Stop (slice_index bs 1) (word bs 2))
    (cond (first_byte bs == 3) (Precedence (slice_index bs 1) (slice_index bs 2) (word bs 3))
    (cond (first_byte bs == 4) (Strike (slice_index bs 1) (slice_index bs 2) (word bs 3))
    (cond (first_byte bs == 5) (Judge (rule_of (slice_index bs 1) (word bs 2)))
    (Lane (word bs 1) (word bs 3) (word bs 5))))))

-- what a line reads as in an input
unfoldable pub reading : Input → List ℕ → Result Entry LineRefusal
reading input line = checked (checks input line) (entry_of (line_bytes line))
