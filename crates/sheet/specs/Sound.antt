-- What always holds of a book, whatever calls were made on it.
use Rattle.std.specs.Prelude.{◌≡◌, ℕ, ◌<◌, ◌≤◌, ◌≢◌, ◌⊎◌, length}
use Rattle.sheet.specs.Book.{Book, Visits, Stands, StartOf, GoalOf, OnRoute, Starts}

-- that P holds, apart from how it is shown: the form in which a type can carry it
abbrev pub Holds : Type 0 → Type 0
Holds P = ∥ P ∥₁

pub record Sound (b : Book) : Type 0 where
  -- the limits
  pub few_carriers : length b.carriers ≤ 64
  pub few_stops : length b.stops ≤ 1024
  pub few_precedences : length b.precedences ≤ 2048
  pub low_start : (c u : ℕ) → StartOf b c u → u ≤ 4095
  pub low_goal : (c v : ℕ) → GoalOf b c v → v ≤ 4095
  pub low_stop : (s c u : ℕ) → Visits b s c u → u ≤ 4095
  -- no two carriers have one start, and no two have one goal
  pub distinct_starts : (c e u : ℕ) → StartOf b c u → StartOf b e u → c ≡ e
  pub distinct_goals : (c e v : ℕ) → GoalOf b c v → GoalOf b e v → c ≡ e
  -- every stop belongs to a carrier on the sheet
  pub known : (s c u : ℕ) → Visits b s c u → c < length b.carriers
  -- a route begins at its carrier's start, has no place twice, and has no stop after its goal
  pub begins : (c u : ℕ) → StartOf b c u → Holds ((s : ℕ) × Starts b c s u)
  pub once : (c s t u : ℕ) → Visits b s c u → Visits b t c u → s ≡ t
  pub ends : (c s t u v : ℕ) → GoalOf b c u → Visits b s c u → Visits b t c v → t ≤ s
  -- a precedence names two carriers that both stop at its place, which is neither the first's goal nor the second's start
  pub two : (k first second u : ℕ) → Stands b k first second u → first ≢ second
  pub shared : (k first second u : ℕ) → Stands b k first second u → Holds (OnRoute b first u × OnRoute b second u)
  pub not_goal : (k first second u : ℕ) → Stands b k first second u → ¬ GoalOf b first u
  pub not_start : (k first second u : ℕ) → Stands b k first second u → ¬ StartOf b second u
  -- two carriers have at most one precedence at a place, either way round
  pub decided_once : (j k c e u : ℕ) → Stands b j c e u → Stands b k c e u ⊎ Stands b k e c u → j ≡ k
