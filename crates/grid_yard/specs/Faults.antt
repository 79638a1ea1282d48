-- Which refusal a grid gets.
use Rattle.std.specs.Prelude.{ℕ, ◌+◌, ◌*◌, ◌/◌, ◌≤◌, List, length}
use Rattle.grid_yard.specs.declared.refusal.GridRefusal.{GridRefusal}
use Rattle.grid_yard.specs.declared.refusal.GridRefusal.TheVariants.{BadSize, BadTime, TooFewWords}
use Rattle.grid_yard.specs.declared.plan.Plan.{Plan}

-- 1 to 64 rows and 1 to 64 columns
abbrev pub Sized : Plan → Type 0
Sized g = (1 ≤ g.rows) × (g.rows ≤ 64) × (1 ≤ g.columns) × (g.columns ≤ 64)

-- both travel times are 1 to 36,000 ticks
abbrev pub Timed : Plan → Type 0
Timed g = (1 ≤ g.along) × (g.along ≤ 36000) × (1 ≤ g.across) × (g.across ≤ 36000)

-- how many words the cells need: one for each 64 of them or part of them
abbrev pub needed : Plan → ℕ
needed g = (g.rows * g.columns + 63) / 64

-- there are as many
abbrev pub Covered : Plan → List ℕ → Type 0
Covered g words = needed g ≤ length words

-- the first of the checks that fails
abbrev pub Fault : Plan → List ℕ → GridRefusal → Type 0
Fault g words BadSize = ¬ Sized g
Fault g words BadTime = Sized g × (¬ Timed g)
Fault g words TooFewWords = Sized g × Timed g × (¬ Covered g words)

-- a grid that may be set out
abbrev pub Lawful : Plan → List ℕ → Type 0
Lawful g words = Sized g × Timed g × Covered g words
