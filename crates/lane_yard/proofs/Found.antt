-- What the search by key finds among lanes.
use Rattle.std.proofs.Common.{◌≡◌, ℕ, List, Some, None, rules}
use Rattle.std.specs.Prelude.{slice_index_or}
use Rattle.keyed.specs.Search.{First, Nowhere}
use Rattle.lane_yard.specs.declared.lane.Lane.{Lane}
use Rattle.lane_yard.proofs.Times.{time_at, time_none}
use Rattle.lane_yard.specs.Records.{no_lane, time_of}

abbrev pub places : Lane → ℕ × ℕ
places l = (l.from, l.to)

module _ (xs : List Lane) (f t : ℕ) where
  pub found : (i : ℕ) → First places (f, t) xs i → time_of xs f t ≡ Some (slice_index_or xs i no_lane).time
  found i first = time_at xs f t i first.0 (search rules) (search rules) (search rules)

  pub missing : Nowhere places (f, t) xs → time_of xs f t ≡ None
  missing nowhere = time_none xs f t (search rules)
