-- The lanes of any of the kinds of yard.
use Rattle.std.specs.Prelude.{ℕ, Option}
use Rattle.grid_yard.specs.Meaning as grid
use Rattle.lane_yard.specs.Meaning as listed
use Rattle.kinds.specs.declared.yards.AnyYard.{AnyYard}
use Rattle.kinds.specs.declared.yards.AnyYard.TheVariants.{Lanes, Grid}

abbrev pub lanes_of : AnyYard → ℕ → ℕ → Option ℕ
lanes_of (Lanes yard) from to = listed.lanes_of yard from to
lanes_of (Grid yard) from to = grid.lanes_of yard from to
