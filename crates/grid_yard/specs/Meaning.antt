-- What a grid yard means.
use Rattle.std.specs.Prelude.{ℕ, Option}
use Rattle.grid_yard.specs.declared.yards.GridYard.{GridYard}
use Rattle.grid_yard.specs.Times.{time_of}

-- the travel time of the lane between two places, where there is one
abbrev pub lanes_of : GridYard → ℕ → ℕ → Option ℕ
lanes_of yard from to = time_of yard.plan yard.closed from to
