use Rattle.std.proofs.Common.{arith}
use Rattle.std.proofs.lemmas.Grind.{common_steps}
use Rattle.grid_yard.proofs.Lanes.{set_out}
use Rattle.grid_yard.proofs.yards.GridYard.set_out.Goals as goal

pub returns-clause-outcome : goal.returns-clause-outcome
returns-clause-outcome c =
    let kept = c.replace.ensures.replaced (grind (arith, common_steps)) in
    rw (kept, c.words_needed.ensures.value) (c.in_ok-check_grid.ensures, set_out _ _)
