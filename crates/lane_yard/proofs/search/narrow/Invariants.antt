use Rattle.std.proofs.Common.{◌≡◌, length}
use Rattle.lane_yard.specs.Records.{Rising, time_of}
use Rattle.lane_yard.proofs.search.narrow.Given as goal

-- the part rises, and has the lane if all have it
abbrev pub invariant-loop-part : goal.invariant-loop-part
invariant-loop-part l = record {
  rises : Rising l.part;
  same : time_of l.part l.fn.places.0 l.fn.places.1 ≡ time_of l.lanes l.fn.places.0 l.fn.places.1;
}

abbrev pub decreases-loop-part : goal.decreases-loop-part
decreases-loop-part l = length l.part
