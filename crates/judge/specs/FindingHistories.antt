-- Whole histories of a sheet by what its judgings find, from the opening on.
use Rattle.std.specs.Prelude.{◌≡◌, ℕ, Option}
use Rattle.sheet.specs.Book.{Book}
use Rattle.sheet.specs.Calls.{Call, Answer}
use Rattle.sheet.specs.Histories.{History, ◌▹◌, Leads, Enters}
use Rattle.judge.specs.Findings.{Setting, Finding}
use Rattle.judge.specs.Judged.{Judging}
use Rattle.judge.specs.Shown.{Concludes, Shows, room_of, setting_in}

-- what may happen to a sheet
pub data Event : Type 0 where
  -- a call with its answer
  entered : Call → Answer → Event
  -- a judging in a yard and under a rule of its own, with room for so many numbers on each page, and what it finds
  judged : Setting → (room : ℕ) → Option Finding → Event

-- an entry or a striking has the book's answer and leaves what the book leaves; a judging finds what it should, and
-- leaves the book as it is
abbrev pub Happens : Book → Event → Book → Type 0
Happens b (entered call answer) b' = Enters b (call, answer) b'
Happens b (judged y room found) b' = Concludes y b room found × (b' ≡ b)

-- every event in the history is lawful, and they left this book
abbrev pub Lawful : History Event → Book → Type 0
Lawful h b = Leads Happens h b

-- what the answer and the pages show, every history that led lawfully to the book goes on with
pub record GoesOn (j : Judging) (b : Book) : Type 0 where
  pub found : Option Finding
  pub shown : Shows j.pages j.answer found
  pub lawful : (h : History Event) → Lawful h b → Lawful (h ▹ judged (setting_in j) (room_of j.pages) found) b
