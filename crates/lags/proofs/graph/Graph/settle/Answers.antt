use Rattle.std.proofs.Common.{◌∙◌, arith}
use Rattle.lags.proofs.Ceilings.{earliest}
use Rattle.lags.proofs.InRounds.{rounds_none}
use Rattle.lags.proofs.Settles.{last_round}
use Rattle.lags.proofs.graph.Graph.settle.Goals as goal

pub loop-init : goal.loop-init
loop-init c = rounds_none _ _ _ c.requires.zero

pub returns-in_err-raise_round : goal.returns-in_err-raise_round
returns-in_err-raise_round c =
    rw c.from_residual.ensures
    (earliest _ _ _ _ _ _ (c.raise_round.ensures.round.progress _ c.loop.invariant).progress (c.raise_round.ensures.round.quiet c.in_err-raise_round.was) c.args.self.now.allowed
    (c.raise_round.auto.arrivals ∙ c.loop.auto.arrivals ∙ c.requires.nodes))

pub returns : goal.returns
returns c =
    last_round _ _ _ _ _ _ _ _ _ (omega arith) c.count_ends-end.ensures.exact c.loop.invariant c.raise_round-2.ensures.round c.raise_round-2.ensures.within c.args.self.now.allowed
    (c.raise_round-2.auto.arrivals ∙ c.loop.auto.arrivals ∙ c.requires.nodes)
