-- The stops linked by place, so that the later stops at a place are found one by one.
use Rattle.std.specs.Prelude.{◌≡◌, ℕ, ◌+◌, ◌%◌, ◌<◌, ◌≤◌, List, length, Some, None, Option, ◌≢◌, slice_index_or}
use Rattle.sheet.specs.declared.records.Stop.{Stop}
use Rattle.sheet.specs.Records.{no_stop}

-- the remainder of a stop's place by 4,096
abbrev pub part_of : List Stop → ℕ → ℕ
part_of stops s = (slice_index_or stops s no_stop).place % 4096

-- o is the lowest stop from `low` on whose place has the remainder, if there is one
pub record LowestFrom (stops : List Stop) (low part : ℕ) (o : Option ℕ) : Type 0 where
  pub within : (t : ℕ) → o ≡ Some t → (low ≤ t) × (t < length stops) × (part_of stops t ≡ part)
  pub skips : (t u : ℕ) → o ≡ Some t → low ≤ u → u < t → part_of stops u ≢ part
  pub none : o ≡ None → (u : ℕ) → low ≤ u → u < length stops → part_of stops u ≢ part

-- each stop is linked to the lowest one above it whose place has the remainder of its own
abbrev pub Chained : List Stop → List (Option ℕ) → Type 0
Chained stops later = (s : ℕ) → s < length stops → LowestFrom stops (s + 1) (part_of stops s) (slice_index_or later s None)

-- the same from the stop s on, while the links are made
pub record ChainedFrom (stops : List Stop) (s : ℕ) (later latest : List (Option ℕ)) : Type 0 where
  pub follows : (r : ℕ) → s ≤ r → r < length stops → LowestFrom stops (r + 1) (part_of stops r) (slice_index_or later r None)
  pub lowest : (b : ℕ) → b < 4096 → LowestFrom stops s b (slice_index_or latest b None)
