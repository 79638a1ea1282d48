-- The line of an entry.
use Rattle.std.specs.Prelude.{◌≡◌, ℕ, ◌^◌, ◌<◌, ◌≤◌, Bool, IsTrue, ◌&&◌, List, [], ◌∷◌, ◌==◌, nat_le}
use Rattle.lines.specs.declared.entry.Entry.{Entry}
use Rattle.lines.specs.declared.entry.Entry.TheVariants.{Carrier, Stop, Precedence, Strike, Judge, Lane}
use Rattle.lines.specs.declared.entry.Input.{Input}
use Rattle.lines.specs.declared.entry.Input.TheVariants.{Yard, Sheet}
use Rattle.lines.specs.Digits.{digits, two}
use Rattle.yard.specs.declared.rules.Rule.{Rule}
use Rattle.yard.specs.declared.rules.Rule.TheVariants.{FullLane, LaneLessOne, FixedGap}
use Rattle.yard.specs.Rules.{gap_of}

-- the rule byte
abbrev pub rule_byte : Rule ℕ → ℕ
rule_byte FullLane = 0
rule_byte LaneLessOne = 1
rule_byte (FixedGap gap) = 2

abbrev pub kind_of : Entry → ℕ
kind_of (Carrier start goal) = 1
kind_of (Stop carrier place) = 2
kind_of (Precedence first second place) = 3
kind_of (Strike first second place) = 4
kind_of (Judge rule) = 5
kind_of (Lane from to time) = 6

abbrev pub fields_of : Entry → List ℕ
fields_of (Carrier start goal) = two start (two goal [])
fields_of (Stop carrier place) = carrier ∷ two place []
fields_of (Precedence first second place) = first ∷ second ∷ two place []
fields_of (Strike first second place) = first ∷ second ∷ two place []
fields_of (Judge rule) = rule_byte rule ∷ two (gap_of rule) []
fields_of (Lane from to time) = two from (two to (two time []))

-- the gap of a judging; any other entry has 0
abbrev pub gap_in : Entry → ℕ
gap_in (Carrier start goal) = 0
gap_in (Stop carrier place) = 0
gap_in (Precedence first second place) = 0
gap_in (Strike first second place) = 0
gap_in (Judge rule) = gap_of rule
gap_in (Lane from to time) = 0

-- the line of an entry: the kind and then the fields, as digits
unfoldable pub line_of : Entry → List ℕ
line_of e = digits (kind_of e ∷ fields_of e)

-- an entry whose numbers fit their fields, and whose fixed gap, if it has one, is at most 36,000
abbrev pub Lawful : Entry → Type 0
Lawful (Carrier start goal) = (start < 2 ^ 16) × (goal < 2 ^ 16)
Lawful (Stop carrier place) = (carrier < 2 ^ 8) × (place < 2 ^ 16)
Lawful (Precedence first second place) = (first < 2 ^ 8) × (second < 2 ^ 8) × (place < 2 ^ 16)
Lawful (Strike first second place) = (first < 2 ^ 8) × (second < 2 ^ 8) × (place < 2 ^ 16)
Lawful (Judge rule) = gap_of rule ≤ 36000
Lawful (Lane from to time) = (from < 2 ^ 16) × (to < 2 ^ 16) × (time < 2 ^ 16)

-- the kinds that an input has
abbrev pub has : Input → ℕ → Bool
has Yard kind = kind == 6
has Sheet kind = nat_le 1 kind && nat_le kind 5

-- the line says the entry: it is the line of that entry, the entry is lawful, and the input has its kind
abbrev pub Says : Input → List ℕ → Entry → Type 0
Says input line e = (line ≡ line_of e) × Lawful e × IsTrue (has input (kind_of e))
