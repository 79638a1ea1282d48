use Rattle.std.proofs.Common.{◌≡◌, length, arith, rules}
use Rattle.judge.proofs.OpposedSteps.{opposed_kept, opposed_found}
use Rattle.judge.proofs.tables.Tables.lowest_head_on.Goals as goal
use Rattle.judge.proofs.tables.Tables.lowest_head_on.Goals.{in-Some, in_default}

pub loop-precedence-preserved : goal.loop-precedence-preserved
loop-precedence-preserved c = elim c.match-head_on_at.branch [
  | in-Some w ↦ rw w.lowest-is (opposed_found _ _ _ _ _ _ _ _ _ (λ a q. search rules) w.map_or.ensures c.loop-precedence.invariant w.in-Some.ensures)
  | in_default w ↦ rw w.lowest-is (opposed_kept _ _ _ _ _ _ c.loop-precedence.invariant w.in_default.ensures)
]

pub returns : goal.returns
returns c =
    let all : c.loop-precedence.precedence-index ≡ length c.args.self.routes.precedences.now = omega arith in
    rw all at c.loop-precedence.invariant
