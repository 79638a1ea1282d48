use Rattle.std.proofs.Common.{◌*◌, length}
use Rattle.lags.specs.Solved.{at}
use Rattle.lags.specs.Progress.{Progress}
use Rattle.lags.proofs.graph.Graph.settle.Given as goal

abbrev pub invariant-loop : goal.invariant-loop
invariant-loop l = Progress l.self.lags.now (l.counter * length l.self.lags.now) 0 (at l.arrivals) (at l.parents)
