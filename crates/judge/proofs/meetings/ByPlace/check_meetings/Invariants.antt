use Rattle.std.proofs.Common.{ℕ, ◌<◌}
use Rattle.judge.specs.Meetings.{OpenMeeting}
use Rattle.judge.proofs.meetings.ByPlace.check_meetings.Given as goal

abbrev pub invariant-loop-s : goal.invariant-loop-s
invariant-loop-s l = (r t : ℕ) → r < l.s → ¬ OpenMeeting l.self.routes.stops.now l.marks.first r t
