-- The lags of a sheet in a yard under a rule: least differences between the arrivals at two stops.
use Rattle.std.specs.Prelude.{ℕ, ◌+◌, ℤ, pos, ◌-ℤ◌}
use Rattle.sheet.specs.Book.{Book, Visits, Stands}
use Rattle.plan.specs.Plans.{Lanes, Gaps, Leg}

module _ (lanes : Lanes) (gap : Gaps) (b : Book) where
  pub data Lag : ℕ → ℕ → ℤ → Type 0 where
    -- the next stop of a route is a travel time later
    travel : {c s u t v d : ℕ} → Leg lanes b c s u t v d → Lag s t (pos d)
    -- who goes second waits for the first's next stop, less its travel time, plus the gap and one tick
    wait : (k : ℕ) {first second s u t v d r : ℕ} → Stands b k first second u → Leg lanes b first s u t v d → Visits b r second u → Lag t r (pos (gap u v d + 1) -ℤ pos d)
