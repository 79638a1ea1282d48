use Rattle.std.proofs.Common.{◌≡◌, ◌++◌, take, drop}
use Rattle.judge.proofs.judging.write_timetable.Given as goal

abbrev pub invariant-loop-i : goal.invariant-loop-i
invariant-loop-i l = l.timetable ≡ take l.i l.arrivals ++ drop l.i l.initial.timetable
