use Rattle.std.proofs.Common.{◌≡◌, sym, ◌∙◌, ℕ, ◌+◌, ◌<◌, List, ◌∷◌, length, drop, slice_index_or, arith}
use Rattle.std.proofs.Math.Seq.{drop-cons}
use Rattle.std.proofs.lemmas.Grind.{common_steps}
use Rattle.lane_yard.specs.declared.lane.Lane.{Lane}
use Rattle.lane_yard.specs.Faults.{Clean}
use Rattle.lane_yard.specs.Records.{Before, Within, no_lane}
use Rattle.lane_yard.proofs.checks.check_lanes.Goals as goal

-- the first lane of the rest is the next of the list
next : (xs : List Lane) (i : ℕ) (l : Lane) (later : List Lane) → drop i xs ≡ l ∷ later → (i < length xs) × (slice_index_or xs i no_lane ≡ l) × (later ≡ drop (i + 1) xs)
next xs i l later e =
    let within : i < length xs = grind (arith, common_steps) in
    let split = drop-cons xs i no_lane within in
    (within, grind arith, grind arith)

-- one lane more is lawful
grown : (xs : List Lane) (i : ℕ) → Clean xs i → Within (slice_index_or xs i no_lane) → ((k : ℕ) → k + 1 ≡ i → Before (slice_index_or xs k no_lane) (slice_index_or xs i no_lane)) → Clean xs (i + 1)
grown xs i clean within rises = (λ k lt. grind (arith, clean.0 k), λ k lt. grind (arith, clean.1 k, rises k))

pub loop-index-preserved : goal.loop-index-preserved
loop-index-preserved c =
    let kept = c.loop-index.invariant in
    let steps = c.in-Some.ensures.steps in
    let now = next c.args.lanes.now c.loop-index.index-iterator.a.start _ _ (sym kept.rest ∙ steps.1) in
    record {
      clean = rw (steps.0.1, steps.0.0) (grown _ _ kept.clean (rw now.1 (grind arith)) (λ k e. rw now.1 (grind arith)));
      within = grind arith;
      rest = rw (steps.0.1, steps.0.0) now.2;
      before = grind arith;
    }
