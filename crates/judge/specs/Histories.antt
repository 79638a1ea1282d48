-- Whole histories of a sheet: entries, strikings and judgings, from the opening on.
use Rattle.std.specs.Prelude.{◌≡◌}
use Rattle.sheet.specs.Book.{Book}
use Rattle.sheet.specs.Calls.{Call, Answer}
use Rattle.sheet.specs.Histories.{History, Leads, Enters}
use Rattle.judge.specs.Judged.{Judging, Judged}

-- what may happen to a sheet: a call with its answer, or a judging, each with a yard and a rule of its own
pub data Event : Type 0 where
  entered : Call → Answer → Event
  judged : Judging → Event

-- an entry or a striking has the book's answer and leaves what the book leaves; a judging is as it should be, and leaves the book as it is
abbrev pub Happens : Book → Event → Book → Type 0
Happens b (entered call answer) b' = Enters b (call, answer) b'
Happens b (judged j) b' = Judged j b × (b' ≡ b)

-- every event in the history is lawful, and they left this book
abbrev pub Lawful : History Event → Book → Type 0
Lawful h b = Leads Happens h b
