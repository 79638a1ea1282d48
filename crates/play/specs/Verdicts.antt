-- What a verdict says.
use Rattle.std.specs.Prelude.{ℕ, Ok, Err, Result, vec_items}
use Rattle.std.specs.Global.{Vec}
use Rattle.judge.specs.Findings.{Finding, not_at_goal, no_lane, undecided, head_on, in_a_ring, passes}
use Rattle.play.specs.declared.answers.SheetRefusal.{SheetRefusal}
use Rattle.play.specs.declared.answers.SheetRefusal.TheVariants.{NotAtGoal, NoLane, Undecided, HeadOn, Ring}

-- a `Verdict`, since antt has no name for an alias
abbrev pub VerdictResult : Type 0
VerdictResult = Result (Vec ℕ) SheetRefusal

abbrev pub finding_of : VerdictResult → Finding
finding_of (Ok timetable) = passes (vec_items timetable)
finding_of (Err (NotAtGoal carrier)) = not_at_goal carrier
finding_of (Err (NoLane stop)) = no_lane stop
finding_of (Err (Undecided stop later)) = undecided stop later
finding_of (Err (HeadOn stop other)) = head_on stop other
finding_of (Err (Ring stops)) = in_a_ring (vec_items stops)
