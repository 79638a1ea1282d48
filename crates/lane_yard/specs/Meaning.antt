-- What a lane yard means.
use Rattle.std.specs.Prelude.{ℕ, List, Option}
use Rattle.lane_yard.specs.declared.lane.Lane.{Lane}
use Rattle.lane_yard.specs.declared.yards.LaneYard.{LaneYard}
use Rattle.lane_yard.specs.Records.{time_of}

-- the yard's lanes, in their order
abbrev pub records_of : LaneYard → List Lane
records_of yard = yard.records

-- the travel time of the lane between two places, where there is one
abbrev pub lanes_of : LaneYard → ℕ → ℕ → Option ℕ
lanes_of yard from to = time_of (records_of yard) from to
