-- Whole histories of a sheet, from its opening on.
use Rattle.std.specs.Prelude.{◌≡◌}
use Rattle.sheet.specs.Book.{Book, opened}
use Rattle.sheet.specs.Calls.{Call, Answer, Answers, Leaves}
use Rattle.sheet.specs.Sound.{Sound}

-- what happened to a sheet since it was opened; the latest event stands last
infixl 20 ◌▹◌
pub data History (Event : Type 0) : Type 0 where
  opening : History Event
  ◌▹◌ : History Event → Event → History Event

-- event by event the history leads from the opened book to this one; Happens b e b' says that e may happen to b and leaves b'
abbrev pub Leads : {Event : Type 0} → (Book → Event → Book → Type 0) → History Event → Book → Type 0
Leads Happens opening b = b ≡ opened
Leads Happens (h ▹ e) b = (b₀ : Book) × Leads Happens h b₀ × Happens b₀ e b

-- a call with its answer
abbrev pub Entry : Type 0
Entry = Call × Answer

-- the book before answers the call so, and becomes the book after
abbrev pub Enters : Book → Entry → Book → Type 0
Enters b e b' = Answers b e.0 e.1 × Leaves b e.0 e.1 b'

-- every call in the history has the book's answer, and the calls left this book
abbrev pub Lawful : History Entry → Book → Type 0
Lawful h b = Leads Enters h b

-- every history that led lawfully to b leads, with this call and this answer, lawfully to b'
abbrev pub Continues : Book → Call → Answer → Book → Type 0
Continues b call answer b' = (h : History Entry) → Lawful h b → Lawful (h ▹ (call, answer)) b'

-- the calls of a history, without their answers
abbrev pub calls_of : History Entry → History Call
calls_of opening = opening
calls_of (h ▹ e) = calls_of h ▹ e.0

-- whatever calls were made, the book is sound
abbrev pub AlwaysSound : Type 0
AlwaysSound = (h : History Entry) (b : Book) → Lawful h b → Sound b

-- the answers and the book depend on nothing but the calls made since the opening, in their order
abbrev pub CallsDecide : Type 0
CallsDecide = (h h' : History Entry) (b b' : Book) → Lawful h b → Lawful h' b' → calls_of h ≡ calls_of h' → (h ≡ h') × (b ≡ b')
