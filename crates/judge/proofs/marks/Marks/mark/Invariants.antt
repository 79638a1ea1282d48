use Rattle.judge.specs.Meetings.{Leads}
use Rattle.judge.proofs.marks.Marks.mark.Given as goal

abbrev pub invariant-loop-precedence : goal.invariant-loop-precedence
invariant-loop-precedence l = Leads l.precedence-items l.precedence-index l.self.first
