use Rattle.std.proofs.Common.{◌≡◌, cond, length, Some, sym, refl, ◌∙◌, arith}
use Rattle.std.proofs.lemmas.List.Elements.{All-get_or}
use Rattle.std.proofs.lemmas.Bool.{cond-true, cond-false}
use Rattle.lags.specs.Solved.{Allowed}
use Rattle.lags.specs.Progress.{no_lag, lag_at}
use Rattle.lags.proofs.InRounds.{round_more, round_all}
use Rattle.lags.proofs.graph.Graph.raise_round.Goals as goal
use Rattle.lags.proofs.graph.Graph.raise_round.Goals.{then-raise, else-raise}

pub loop-number-preserved : goal.loop-number-preserved
loop-number-preserved c =
    let g = c.args.self.now in
    let lag = lag_at g.lags.now c.loop-number.number in
    let allowed : Allowed (length c.args.arrivals.now) lag = rw c.requires.nodes (All-get_or (Allowed g.nodes) g.lags.now c.loop-number.number no_lag c.loop-number-test.true g.allowed) in
    let e : c.if-raise.raised ≡ cond c.raise.result (Some lag.to) c.loop-number.raised =
    elim c.if-raise.branch [ then-raise w ↦ w.raised-is ∙ sym (cond-true _ _ _ w.if-raise.true) | else-raise w ↦ w.raised-is ∙ sym (cond-false _ _ _ w.if-raise.false) ] in
    round_more _ _ _ _ _ _ _ c.loop-number.invariant c.loop-number-test.true lag refl allowed (omega arith) (omega (arith, c.requires.nodes, g.few))
    _ _ _ _ c.raise.ensures.test c.raise.ensures.arrives c.raise.ensures.parent e

pub returns-clause-round : goal.returns-clause-round
returns-clause-round c = round_all _ _ _ _ _ _ _ (omega arith) c.loop-number.invariant
