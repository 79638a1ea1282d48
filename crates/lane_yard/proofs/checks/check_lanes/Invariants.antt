use Rattle.std.proofs.Common.{◌≡◌, ◌-◌, ◌<◌, ◌≤◌, drop, length, slice_index_or}
use Rattle.std.specs.Prelude.{MatchOption}
use Rattle.lane_yard.specs.Faults.{Clean}
use Rattle.lane_yard.specs.Records.{no_lane}
use Rattle.lane_yard.proofs.checks.check_lanes.Given as goal

abbrev pub invariant-loop-index : goal.invariant-loop-index
invariant-loop-index l = record {
  clean : Clean l.lanes l.index-iterator.a.start;
  within : l.index-iterator.a.start ≤ length l.lanes;
  rest : l.index-iterator.b.rest.now ≡ drop l.index-iterator.a.start l.lanes;
  before : MatchOption l.previous (l.index-iterator.a.start ≡ 0) (λ p. (0 < l.index-iterator.a.start) × (p.now ≡ slice_index_or l.lanes (l.index-iterator.a.start - 1) no_lane));
}
