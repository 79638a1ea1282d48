-- The computed travel times are the lanes of the grid.
use Rattle.std.proofs.Common.{◌≡◌, ℕ, List, take, arith}
use Rattle.std.proofs.lemmas.Bool.Decides.{nat_tests}
use Rattle.std.proofs.lemmas.Grind.{common_steps}
use Rattle.grid_yard.specs.declared.plan.Plan.{Plan}
use Rattle.grid_yard.specs.Cells.{LanesOf}
use Rattle.grid_yard.specs.Faults.{needed}
use Rattle.grid_yard.specs.Times.{open_cell, time_of}

module _ (g : Plan) (words : List ℕ) where
  -- the computed travel times are the lanes
  lanes_exact : LanesOf g words (time_of g words)
  lanes_exact a b time = grind (arith, nat_tests)

  -- words past those that the cells need tell nothing
  open_kept : (c : ℕ) → open_cell g (take (needed g) words) c ≡ open_cell g words c
  open_kept c = grind (arith, nat_tests, common_steps)

  pub set_out : LanesOf g words (time_of g (take (needed g) words))
  set_out a b time = simp open_kept (lanes_exact a b time)
