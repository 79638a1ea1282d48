-- The number of each refusal of a list of lanes, and what it tells.
use Rattle.std.specs.Prelude.{ℕ}
use Rattle.lane_yard.specs.declared.refusal.LayRefusal.{LayRefusal}
use Rattle.lane_yard.specs.declared.refusal.LayRefusal.TheVariants.{BadLane, NotRising, TooManyLanes}

abbrev pub number_of : LayRefusal → ℕ
number_of (BadLane index) = 18
number_of (NotRising index) = 19
number_of TooManyLanes = 20

abbrev pub told_by : LayRefusal → ℕ
told_by (BadLane index) = index
told_by (NotRising index) = index
told_by TooManyLanes = 0
