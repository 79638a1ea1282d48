use Rattle.judge.specs.Meetings.{LowestOpposed}
use Rattle.judge.proofs.tables.Tables.lowest_head_on.Given as goal

abbrev pub invariant-loop-precedence : goal.invariant-loop-precedence
invariant-loop-precedence l = LowestOpposed l.self.routes.stops.now l.self.legs.now l.marks.first l.precedence-items l.precedence-index l.lowest
