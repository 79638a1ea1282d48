-- Which refusal a list of lanes gets.
use Rattle.std.specs.Prelude.{◌≡◌, ℕ, ◌+◌, ◌<◌, ◌≤◌, List, length, slice_index_or}
use Rattle.lane_yard.specs.declared.lane.Lane.{Lane}
use Rattle.lane_yard.specs.declared.refusal.LayRefusal.{LayRefusal}
use Rattle.lane_yard.specs.declared.refusal.LayRefusal.TheVariants.{BadLane, NotRising, TooManyLanes}
use Rattle.lane_yard.specs.Records.{Within, Before, no_lane}

-- the lanes below n are within the limits and rise
abbrev pub Clean : List Lane → ℕ → Type 0
Clean xs n = ((k : ℕ) → k < n → Within (slice_index_or xs k no_lane)) × ((k : ℕ) → k + 1 < n → Before (slice_index_or xs k no_lane) (slice_index_or xs (k + 1) no_lane))

-- a list that may be laid
abbrev pub Lawful : List Lane → Type 0
Lawful xs = (length xs ≤ 8192) × Clean xs (length xs)

-- the first fault of a list: that there are too many lanes, or else, lane by lane, the first that is not within the limits
-- or does not rise
abbrev pub Fault : List Lane → LayRefusal → Type 0
Fault xs TooManyLanes = 8192 < length xs
Fault xs (BadLane i) = (length xs ≤ 8192) × (i < length xs) × Clean xs i × (¬ Within (slice_index_or xs i no_lane))
Fault xs (NotRising i) = (length xs ≤ 8192) × (i < length xs) × Clean xs i × Within (slice_index_or xs i no_lane) × (0 < i) × ((k : ℕ) → k + 1 ≡ i → ¬ Before (slice_index_or xs k no_lane) (slice_index_or xs i no_lane))
