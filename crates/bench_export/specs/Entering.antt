-- What comes of entering a list of calls, one after another.
use Rattle.std.specs.Prelude.{◌≡◌, List, [], ◌∷◌, ◌++◌}
use Rattle.bench_export.specs.declared.fault.Fault.{Fault}
use Rattle.bench_export.specs.declared.fault.Fault.TheVariants.{NoMemory, Lay, Grid, Entry, Judge}
use Rattle.sheet.specs.Book.{Book, opened}
use Rattle.sheet.specs.Calls.{Call, Accepts, Changes, Refuses, checks}
use Rattle.sheet.specs.declared.refusal.EntryRefusal.{EntryRefusal}

-- every call is accepted, and together they turn the book b into b'
abbrev pub AllEntered : Book → List Call → Book → Type 0
AllEntered b [] b' = b' ≡ b
AllEntered b (call ∷ calls) b' = (next : Book) × Accepts (checks b call) × Changes b call next × AllEntered next calls b'

-- every call before this one is accepted, and this one is refused so
pub record FirstRefused (b : Book) (calls : List Call) (refusal : EntryRefusal) : Type 0 where
  pub before : List Call
  pub call : Call
  pub after : List Call
  pub whole : calls ≡ before ++ call ∷ after
  pub book : Book
  pub entered : AllEntered b before book
  pub refused : Refuses (checks book call) refusal

-- why a new sheet cannot have all calls: the refusal of the first that is refused, or there is no memory
abbrev pub NotFilled : List Call → Fault → Type 0
NotFilled calls NoMemory = Unit {0}
NotFilled calls (Lay why) = ⊥
NotFilled calls (Grid why) = ⊥
NotFilled calls (Entry why) = FirstRefused opened calls why
NotFilled calls (Judge why) = ⊥
