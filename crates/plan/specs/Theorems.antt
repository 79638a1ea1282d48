-- What the lags of a sheet decide. A good plan is a timed plan that keeps every standing precedence and is free of conflict.
use Rattle.std.specs.Prelude.{◌≡◌, ℕ, ◌≤◌, ◌≢◌, List, Some}
use Rattle.lags.specs.Ways.{Ring, Solution}
use Rattle.sheet.specs.Book.{Book, Visits, Stands, Starts}
use Rattle.plan.specs.Plans.{Lanes, Gaps, Leg, Good, Opposed, Complete}
use Rattle.plan.specs.Lags.{Lag}

-- what a complete sheet has: who goes first and who goes second differ, and who goes first goes on from there by a lane
pub record Orderly (lanes : Lanes) (b : Book) : Type 0 where
  pub differ : (k first second u : ℕ) → Stands b k first second u → first ≢ second
  pub goes_on : (k first second u s : ℕ) → Stands b k first second u → Visits b s first u → (t v d : ℕ) × Leg lanes b first s u t v d

-- every travel time is at least 1
abbrev pub Positive : Lanes → Type 0
Positive lanes = (u v d : ℕ) → lanes u v ≡ Some d → 1 ≤ d

-- each start stop is at 0
abbrev pub FromZero : Book → (ℕ → ℕ) → Type 0
FromZero b α = (c s u : ℕ) → Starts b c s u → α s ≡ 0

pub record LagsDecideIn (lanes : Lanes) (gap : Gaps) (b : Book) : Type 0 where
  -- a good plan keeps every lag
  pub good_keeps : (α : ℕ → ℕ) → Good lanes gap b α → Solution (Lag lanes gap b) α
  -- on a complete sheet where nothing is set head on, arrivals that keep every lag and begin at 0 are a good plan
  pub kept_good : Complete lanes b → ((s t : ℕ) → ¬ Opposed lanes b s t) → (α : ℕ → ℕ) → FromZero b α → Solution (Lag lanes gap b) α → Good lanes gap b α
  -- where two stops are set head on, no plan is good
  pub opposed_none : (s t : ℕ) → Opposed lanes b s t → (α : ℕ → ℕ) → ¬ Good lanes gap b α
  -- where there is a ring with a lag sum above 0, no plan is good
  pub ring_none : (l : List ℕ) → Ring (Lag lanes gap b) l → (α : ℕ → ℕ) → ¬ Good lanes gap b α

abbrev pub LagsDecide : Type 0
LagsDecide = (lanes : Lanes) (gap : Gaps) (b : Book) → Positive lanes → Orderly lanes b → LagsDecideIn lanes gap b
