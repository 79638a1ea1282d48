-- The number of each refusal of a judging, and what it tells.
use Rattle.std.specs.Prelude.{ℕ}
use Rattle.judge.specs.declared.refusal.JudgeRefusal.{JudgeRefusal}
use Rattle.judge.specs.declared.refusal.JudgeRefusal.TheVariants.{PageTooShort, NotAtGoal, NoLane, Undecided, HeadOn, Ring}

abbrev pub number_of : JudgeRefusal → ℕ
number_of PageTooShort = 12
number_of (NotAtGoal carrier) = 13
number_of (NoLane stop) = 14
number_of (Undecided stop later) = 15
number_of (HeadOn stop other) = 16
number_of (Ring long) = 17

abbrev pub told_by : JudgeRefusal → ℕ × ℕ
told_by PageTooShort = (0, 0)
told_by (NotAtGoal carrier) = (carrier, 0)
told_by (NoLane stop) = (stop, 0)
told_by (Undecided stop later) = (stop, later)
told_by (HeadOn stop other) = (stop, other)
told_by (Ring long) = (long, 0)
