-- What rising lanes keep: two lanes never join the same places, and a binary search by the places finds their lane.
use Rattle.std.proofs.Common.{◌≡◌, ℕ, zero, suc, ◌<◌, List, length, slice_index_or, Some, add-one, arith}
use Rattle.lane_yard.specs.declared.lane.Lane.{Lane}
use Rattle.lane_yard.proofs.Times.{time_at}
use Rattle.lane_yard.specs.Records.{no_lane, Before, Rising, time_of}

-- each lane comes before each later one
pub far : (xs : List Lane) → Rising xs → (i j : ℕ) → i < j → j < length xs → Before (slice_index_or xs i no_lane) (slice_index_or xs j no_lane)
far xs r i zero lt within = absurd (omega arith)
far xs r i (suc j) lt within =
    let near : Before (slice_index_or xs j no_lane) (slice_index_or xs (suc j) no_lane) = rw add-one at (r j (omega arith)) in
    let past = far xs r i j in
    grind arith

module _ (xs : List Lane) (r : Rising xs) (f t : ℕ) where
  -- a lane that joins the places is the only one
  pub only : (i : ℕ) → i < length xs → (slice_index_or xs i no_lane).from ≡ f → (slice_index_or xs i no_lane).to ≡ t → time_of xs f t ≡ Some (slice_index_or xs i no_lane).time
  only i within p q =
      time_at xs f t i within p q (λ k lo hi a b. grind (arith, far xs r k i hi within))
