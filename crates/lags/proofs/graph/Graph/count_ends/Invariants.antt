use Rattle.lags.specs.Traced.{Marking}
use Rattle.lags.proofs.graph.Graph.count_ends.Given as goal

abbrev pub invariant-loop-lag : goal.invariant-loop-lag
invariant-loop-lag l = Marking l.self.lags.now l.lag-index l.marks l.ends
