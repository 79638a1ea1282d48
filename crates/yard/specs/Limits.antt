-- The limits of places and lanes.
use Rattle.std.specs.Prelude.{ℕ, ◌≤◌, ◌≢◌}

-- places are numbered 0 to 4,095
abbrev pub Place : ℕ → Type 0
Place p = p ≤ 4095

-- a lane leads from a place to a different place, in a travel time of 1 to 36,000 ticks
abbrev pub LaneWithin : ℕ → ℕ → ℕ → Type 0
LaneWithin from to time = Place from × Place to × (from ≢ to) × (1 ≤ time) × (time ≤ 36000)
