-- What is copied of a text.
use Rattle.std.specs.Prelude.{◌≡◌, ℕ, ◌-◌, cond, List, [], ◌∷◌, ◌++◌, length, map, Bool, true, false, Ok, Err, Result, nat_le}
use Rattle.lines.specs.Entries.{line_of}
use Rattle.lines.specs.Pages.{written}
use Rattle.lines.specs.Reading.{reading}
use Rattle.lines.specs.declared.entry.Entry.{Entry}
use Rattle.lines.specs.declared.entry.Input.{Input}
use Rattle.lines.specs.declared.entry.Input.TheVariants.{Sheet, Yard}
use Rattle.lines.specs.declared.refusal.LineRefusal.{LineRefusal}
use Rattle.yard_file.specs.Splits.{Split}

-- the input of the yard or that of a sheet
abbrev pub input_of : (of_yard : Bool) → Input
input_of true = Yard
input_of false = Sheet

-- the line of an entry that was read, with a newline, the byte 10; a line that is refused gives nothing
abbrev pub written_back : Result Entry LineRefusal → List ℕ
written_back (Ok entry) = line_of entry ++ 10 ∷ []
written_back (Err why) = []

-- the texts, one after another, that have room in so many bytes; one that has none is left out
abbrev pub fitting : (room : ℕ) → List (List ℕ) → List ℕ
fitting room [] = []
fitting room (text ∷ texts) = cond (nat_le (length text) room) (text ++ fitting (room - length text) texts) (fitting room texts)

-- what is copied of lines into so many bytes
abbrev pub copied : Input → (room : ℕ) → List (List ℕ) → List ℕ
copied input room lines = fitting room (map (λ line. written_back (reading input line)) lines)

-- of each line of the text that ends in a newline what is written back stands at the front of the page, where it has
-- room; the rest of the page stands, and so many bytes were written
pub record Copied (input : Input) (text page page' : List ℕ) (count : ℕ) : Type 0 where
  pub lines : List (List ℕ)
  pub begun : List ℕ
  pub split : Split text lines begun
  pub front : page' ≡ written page 0 (copied input (length page) lines)
  pub all : count ≡ length (copied input (length page) lines)
