use Rattle.std.proofs.Common.{arith}
use Rattle.judge.proofs.Tabled.{ready}
use Rattle.judge.proofs.judging.judge_routes.Goals as goal

pub invariant_of-tables : goal.invariant_of-tables
invariant_of-tables g c = record { ready = ready _ (g.met.Y.Yard.limited _) _ _ c.in_ok-find_legs.ensures _ c.args.routes.consistent (omega arith) }
