use Rattle.std.proofs.Common.{◌+◌, ◌≤◌, length}
use Rattle.arrayvec.specs.ArrayVec.{array_vec_len}
use Rattle.judge.specs.Waits.{LagOf, Lists}
use Rattle.judge.proofs.tables.Tables.gather_waits.Given as goal

abbrev pub invariant-loop-precedence : goal.invariant-loop-precedence
invariant-loop-precedence g l =
    (array_vec_len l.lags ≤ length l.self.routes.stops.now + l.precedence-index)
    × Lists (LagOf (g.R.FollowingRule.gaps l.rule) l.self.routes.stops.now l.self.legs.now l.precedence-items (length l.self.routes.stops.now) l.precedence-index) l.lags.items
