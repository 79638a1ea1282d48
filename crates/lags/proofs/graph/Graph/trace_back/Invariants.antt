use Rattle.std.proofs.Common.{◌-◌, length}
use Rattle.lags.specs.Solved.{at}
use Rattle.lags.specs.Traced.{Tracing}
use Rattle.lags.proofs.graph.Graph.trace_back.Given as goal

abbrev pub invariant-loop-met : goal.invariant-loop-met
invariant-loop-met l = Tracing l.self.lags.now (at l.parents) l.self.nodes l.start l.nodes.items l.met l.node

abbrev pub decreases-loop-met : goal.decreases-loop-met
decreases-loop-met l = l.self.nodes - length l.nodes.items
