use Rattle.std.proofs.Common.{◌≡◌, ◌/◌, ◌<◌, ◌≤◌, ◌⊎◌, ◌∙◌, length, slice_index_or, arith}
use Rattle.std.proofs.lemmas.Bool.Decides.{nat_tests}
use Rattle.std.proofs.lemmas.List.{get_or-drop}
use Rattle.lane_yard.specs.Records.{no_lane}
use Rattle.lane_yard.proofs.Halves.{rising_front, rising_back, at_front, at_back}
use Rattle.lane_yard.proofs.search.narrow.Goals as goal

pub loop-part-preserved-then-is_before : goal.loop-part-preserved-then-is_before
loop-part-preserved-then-is_before c =
    let part = c.loop-part.part.now in
    let k = length part / 2 in
    let rises = c.loop-part.invariant.rises in
    let within : k < length part = grind arith in
    let middle = slice_index_or part k no_lane in
    let after : (c.args.places.0 < middle.from) ⊎ ((middle.from ≡ c.args.places.0) × (c.args.places.1 < middle.to)) = grind (arith, nat_tests, get_or-drop k part 0 no_lane) in
    rw (c.split_at.ensures.front) (record {
      rises = rising_front part rises k within;
      same = at_front part rises k within c.args.places.0 c.args.places.1 after ∙ c.loop-part.invariant.same;
    })

pub loop-part-preserved : goal.loop-part-preserved
loop-part-preserved c =
    let part = c.loop-part.part.now in
    let k = length part / 2 in
    let rises = c.loop-part.invariant.rises in
    let within : k < length part = grind arith in
    let middle = slice_index_or part k no_lane in
    let not_after : (middle.from < c.args.places.0) ⊎ ((middle.from ≡ c.args.places.0) × (middle.to ≤ c.args.places.1)) = grind (arith, nat_tests, get_or-drop k part 0 no_lane) in
    rw (c.split_at.ensures.back) (record {
      rises = rising_back part rises k within;
      same = at_back part rises k within c.args.places.0 c.args.places.1 not_after ∙ c.loop-part.invariant.same;
    })
