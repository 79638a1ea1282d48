use Rattle.std.proofs.Common.{◌<◌, arith}
use Rattle.std.proofs.lemmas.List.Elements.{All-get_or}
use Rattle.lags.specs.Solved.{Allowed}
use Rattle.lags.specs.Progress.{no_lag, lag_at}
use Rattle.lags.proofs.Marks.{marking_none, marking_again, marking_new, marking_few, marking_all}
use Rattle.lags.proofs.graph.Graph.count_ends.Goals as goal
use Rattle.lags.proofs.graph.Graph.count_ends.Goals.{then-not-marks-to, else-not-marks-to}

pub loop-lag-init : goal.loop-lag-init
loop-lag-init c = marking_none c.args.self.now.lags.now

pub overflow_add-ends : goal.overflow_add-ends
overflow_add-ends c = omega (arith, marking_few _ _ _ _ c.loop-lag.invariant)

pub loop-lag-preserved : goal.loop-lag-preserved
loop-lag-preserved c =
    let g = c.args.self.now in
    let a = All-get_or (Allowed g.nodes) g.lags.now c.loop-lag.lag-index no_lag c.loop-lag-test.true g.allowed in
    let b : (lag_at g.lags.now c.loop-lag.lag-index).to < 1024 = omega (arith, a, g.few) in
    elim c.if-not-marks-to.branch [
      | then-not-marks-to w ↦ rw (w.marks-is, w.ends-is, c.from-to.ensures) (marking_new _ _ _ _ c.loop-lag.invariant c.loop-lag-test.true b (rw c.from-to.ensures at w.if-not-marks-to.true))
      | else-not-marks-to w ↦ rw (w.marks-is, w.ends-is) (marking_again _ _ _ _ c.loop-lag.invariant c.loop-lag-test.true (rw c.from-to.ensures at w.if-not-marks-to.false))
    ]

pub returns-clause-exact : goal.returns-clause-exact
returns-clause-exact c = marking_all _ _ _ _ c.loop-lag.invariant c.loop-lag-test.false

pub returns-clause-few : goal.returns-clause-few
returns-clause-few c = marking_few _ _ _ _ c.loop-lag.invariant
