-- When the sheet refuses an entry, and when judging it does not pass.
use Rattle.std.specs.Prelude.{◌≡◌, ℕ, Err, Option}
use Rattle.lines.specs.declared.entry.Entry.{Entry}
use Rattle.lines.specs.declared.entry.Entry.TheVariants as entry
use Rattle.sheet.specs.declared.refusal.EntryRefusal.{EntryRefusal}
use Rattle.sheet.specs.Book.{Book}
use Rattle.sheet.specs.Calls.{Refuses, checks}
use Rattle.sheet.specs.Calls.Call.{enter_carrier, enter_stop, enter_precedence, strike_precedence}
use Rattle.judge.specs.declared.refusal.JudgeRefusal.{JudgeRefusal}
use Rattle.judge.specs.Judged.{Judging, Judged}
use Rattle.explain.specs.Lists.{Lists, book_of}

-- of the call's checks, the first that applies refuses so; a judging is no call on the sheet, and a lane no entry of it
abbrev pub RefusedAs : Lists → Entry → EntryRefusal → Type 0
RefusedAs lists (entry.Carrier start goal) why = Refuses (checks (book_of lists) (enter_carrier start goal)) why
RefusedAs lists (entry.Stop carrier place) why = Refuses (checks (book_of lists) (enter_stop carrier place)) why
RefusedAs lists (entry.Precedence first second place) why = Refuses (checks (book_of lists) (enter_precedence first second place)) why
RefusedAs lists (entry.Strike first second place) why = Refuses (checks (book_of lists) (strike_precedence first second place)) why
RefusedAs lists (entry.Judge rule) why = ⊥
RefusedAs lists (entry.Lane from to time) why = ⊥

-- a judging in a yard with these lanes refuses so
abbrev pub RefusedJudging : (ℕ → ℕ → Option ℕ) → Book → JudgeRefusal → Type 0
RefusedJudging lanes b why = (j : Judging) × (j.lanes ≡ lanes) × (j.answer ≡ Err why) × Judged j b
