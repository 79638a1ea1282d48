use Rattle.std.proofs.Common.{◌≡◌, length, ap, arith}
use Rattle.arrayvec.specs.ArrayVec.{array_vec_len}
use Rattle.judge.proofs.WaitSteps.{wait_none, wait_more}
use Rattle.judge.proofs.tables.Tables.gather_waits.Goals as goal
use Rattle.judge.proofs.tables.Tables.gather_waits.Goals.{in-Some, in_default}

pub loop-precedence-preserved : goal.loop-precedence-preserved
loop-precedence-preserved g c = elim c.match-waiting_lag.branch [
  | in-Some w ↦ (
    omega (arith, ap array_vec_len w.lags-is, w.push.ensures.len),
    rw (w.lags-is, w.push.ensures.items) (wait_more _ _ _ _ _ _ _ c.loop-precedence.invariant.1 _ w.in-Some.ensures),
  )
  | in_default w ↦ rw w.lags-is (omega arith, wait_none _ _ _ _ _ _ _ c.loop-precedence.invariant.1 w.in_default.ensures)
]

pub returns : goal.returns
returns g c =
    let all : c.loop-precedence.precedence-index ≡ length c.args.self.routes.precedences.now = omega arith in
    rw all at c.loop-precedence.invariant.1
