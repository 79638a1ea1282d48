use Rattle.lags.specs.Progress.{InRound}
use Rattle.lags.proofs.graph.Graph.raise_round.Given as goal

abbrev pub invariant-loop-number : goal.invariant-loop-number
invariant-loop-number l = InRound l.self.lags.now l.initial.arrivals l.initial.parents l.arrivals l.parents l.number l.raised
