-- When a carrier departs.
use Rattle.std.specs.Prelude.{◌≡◌, ℕ, ◌+◌, ◌<◌, List, length, Some, Option, slice_index, slice_index_or}
use Rattle.sheet.specs.declared.records.Stop.{Stop}
use Rattle.sheet.specs.Records.{no_stop}

-- leaving stop s at this tick and driving without pause, the carrier reaches stop t when it arrives there
pub record Departs (lanes : ℕ → ℕ → Option ℕ) (stops : List Stop) (arrivals : List ℕ) (s t tick : ℕ) : Type 0 where
  pub leaves : s < length stops
  pub reaches : t < length stops
  pub timed : t < length arrivals
  pub time : ℕ
  pub lane : lanes (slice_index_or stops s no_stop).place (slice_index_or stops t no_stop).place ≡ Some time
  pub arrives : tick + time ≡ slice_index arrivals t
