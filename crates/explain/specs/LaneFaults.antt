-- What is wrong with a lane that is refused, given the lane before it.
use Rattle.std.specs.Prelude.{◌≡◌, ◌<◌, ◌⊎◌, Some, Option}
use Rattle.lane_yard.specs.declared.lane.Lane.{Lane}
use Rattle.lane_yard.specs.Records.{Before}
use Rattle.lane_yard.specs.declared.refusal.LayRefusal.{LayRefusal}
use Rattle.lane_yard.specs.declared.refusal.LayRefusal.TheVariants as refusal
use Rattle.explain.specs.declared.lane_fault.LaneFault.{LaneFault}
use Rattle.explain.specs.declared.lane_fault.LaneFault.TheVariants as fault

-- the lane by itself is outside the limits
abbrev pub OutsideLimits : Lane → LaneFault → Type 0
OutsideLimits lane why =
    ((why ≡ fault.PlaceTooHigh lane.from) × (4095 < lane.from))
    ⊎ ((why ≡ fault.PlaceTooHigh lane.to) × (4095 < lane.to))
    ⊎ ((why ≡ fault.NoWay lane.from) × (lane.from ≡ lane.to))
    ⊎ ((why ≡ fault.BadTime lane.time) × ((lane.time ≡ 0) ⊎ (36000 < lane.time)))

abbrev pub FaultOf : Lane → Option Lane → LayRefusal → LaneFault → Type 0
FaultOf lane before (refusal.BadLane index) why = OutsideLimits lane why
FaultOf lane before (refusal.NotRising index) why = (previous : Lane) × (before ≡ Some previous) × (¬ Before previous lane) × (why ≡ fault.NotRising lane previous)
FaultOf lane before refusal.TooManyLanes why = ⊥
