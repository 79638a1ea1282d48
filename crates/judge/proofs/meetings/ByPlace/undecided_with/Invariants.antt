use Rattle.std.proofs.Common.{◌-◌, length, unwrap_or}
use Rattle.judge.proofs.ChainSteps.{Left}
use Rattle.judge.proofs.meetings.ByPlace.undecided_with.Given as goal

abbrev pub invariant-loop-next : goal.invariant-loop-next
invariant-loop-next l = Left l.self.routes.stops.now l.marks.first l.s l.next

abbrev pub decreases-loop-next : goal.decreases-loop-next
decreases-loop-next l = length l.self.routes.stops.now - unwrap_or l.next (length l.self.routes.stops.now)
