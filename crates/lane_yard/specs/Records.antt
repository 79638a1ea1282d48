-- What a list of lanes says, and when it is lawful.
use Rattle.std.specs.Prelude.{◌≡◌, ℕ, ◌+◌, ◌<◌, ◌≤◌, cond, ◌&&◌, List, [], ◌∷◌, length, Some, None, Option, ◌==◌, ◌≢◌, ◌↔◌, slice_index_or}
use Rattle.std.specs.List.{Contains}
use Rattle.yard.specs.Limits.{LaneWithin}
use Rattle.lane_yard.specs.declared.lane.Lane.{Lane}

-- a lane within the limits
abbrev pub Within : Lane → Type 0
Within l = LaneWithin l.from l.to l.time

-- the order of lanes: by the place they lead from, then by the place they lead to
abbrev pub Before : Lane → Lane → Type 0
Before a b = (a.from ≤ b.from) × (a.from ≡ b.from → a.to < b.to)

-- the travel time of the listed lane between two places, where there is one
abbrev pub time_of : List Lane → ℕ → ℕ → Option ℕ
time_of [] from to = None
time_of (l ∷ ls) from to = cond (l.from == from && l.to == to) (Some l.time) (time_of ls from to)

-- the lane between two places in a travel time
abbrev pub lane : ℕ → ℕ → ℕ → Lane
lane from to time = record { from = from; to = to; time = time }

-- what is read past the end of a list
abbrev pub no_lane : Lane
no_lane = lane 0 0 0

-- the answer tells of the lane between two places that stands in the list, or of none
unfoldable pub Tells : List Lane → ℕ → ℕ → Option ℕ → Type 0
Tells xs from to answer = (time : ℕ) → ((answer ≡ Some time) ↔ Contains xs (lane from to time))

-- these lanes are those of the list: each that stands in it, and no other
abbrev pub LanesOf : List Lane → (ℕ → ℕ → Option ℕ) → Type 0
LanesOf xs lanes = (from to : ℕ) → Tells xs from to (lanes from to)

-- each lane is within the limits
abbrev pub AllWithin : List Lane → Type 0
AllWithin xs = (k : ℕ) → k < length xs → Within (slice_index_or xs k no_lane)

-- each lane comes before the next
abbrev pub Rising : List Lane → Type 0
Rising xs = (k : ℕ) → k + 1 < length xs → Before (slice_index_or xs k no_lane) (slice_index_or xs (k + 1) no_lane)

-- no lane from index `low` to below index `high` joins the two places
abbrev pub Absent : List Lane → ℕ → ℕ → ℕ → ℕ → Type 0
Absent xs from to low high = (k : ℕ) → low ≤ k → k < high → (slice_index_or xs k no_lane).from ≡ from → (slice_index_or xs k no_lane).to ≢ to
