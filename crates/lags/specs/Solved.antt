-- What the solver answers for a list of lags.
use Rattle.std.specs.Prelude.{◌≡◌, ℕ, ◌-◌, ◌*◌, ◌<◌, ◌≤◌, List, length, take, drop, ℤ, pos, negsuc, ◌≤ℤ◌, Ok, Err, Result, slice_index}
use Rattle.std.specs.List.{Contains, All}
use Rattle.lags.specs.declared.Lag.{Lag}
use Rattle.lags.specs.declared.Unsolved.{Unsolved}
use Rattle.lags.specs.declared.Unsolved.TheVariants.{Ring as RingOf, Unfit}
use Rattle.lags.specs.Ways.{Ring, Solution, Least}

-- the list has a lag of w from s to t
abbrev pub Listed : List Lag → ℕ → ℕ → ℤ → Type 0
Listed lags s t w = Contains lags (record { from = s; to = t; weight = w })

-- the number at an index, as the arrival at a node
abbrev pub at : List ℕ → ℕ → ℕ
at α v = slice_index α v

-- both ends are nodes
abbrev pub Inside : ℕ → Lag → Type 0
Inside nodes g = (g.from < nodes) × (g.to < nodes)

-- the weight is -100,000 to 100,000
abbrev pub Limited : Lag → Type 0
Limited g = (negsuc 99999 ≤ℤ g.weight) × (g.weight ≤ℤ pos 100000)

abbrev pub Allowed : ℕ → Lag → Type 0
Allowed nodes g = Inside nodes g × Limited g

-- the limits within which lags are solved, for so many nodes and a ring page with so much room
pub record Fit (lags : List Lag) (nodes room : ℕ) : Type 0 where
  pub few : nodes ≤ 1024
  pub short : length lags ≤ 3072
  pub allowed : All (Allowed nodes) lags
  pub wide : nodes ≤ room

-- no weight is above w
abbrev pub Under : List Lag → ℕ → Type 0
Under lags w = All (λ g. g.weight ≤ℤ pos w) lags

-- α has the least solution, and no arrival of it is above as many times w as there are nodes less one, where no weight is
-- above w
pub record Earliest (lags : List Lag) (α : List ℕ) : Type 0 where
  pub least : Least (Listed lags) (at α)
  pub ceiling : (w : ℕ) → Under lags w → (v : ℕ) → at α v ≤ (length α - 1) * w

-- the first k numbers of the page are a ring with a sum above 0, so that there is no solution, and the others are as
-- before; which such ring is left open
pub record Looped (lags : List Lag) (nodes k : ℕ) (before after : List ℕ) : Type 0 where
  pub ring : Ring (Listed lags) (take k after)
  pub within : k ≤ nodes
  pub stands : drop k after ≡ drop k before
  pub unsolvable : (α : ℕ → ℕ) → ¬ Solution (Listed lags) α

-- an open outcome: nothing is promised of these numbers but that there are as many as before
abbrev pub LeftOpen : List ℕ → List ℕ → Type 0
LeftOpen before after = length after ≡ length before

-- what the solver answers, and what it leaves in the arrivals and on the ring page
abbrev pub Solved : List Lag → List ℕ → List ℕ → List ℕ → List ℕ → Result (Unit {0}) Unsolved → Type 0
Solved lags α α' page page' (Ok _) = Fit lags (length α) (length page) × Earliest lags α' × (page' ≡ page)
Solved lags α α' page page' (Err (RingOf k)) = Fit lags (length α) (length page) × Looped lags (length α) k page page' × LeftOpen α α'
Solved lags α α' page page' (Err Unfit) = (¬ Fit lags (length α) (length page)) × (α' ≡ α) × (page' ≡ page)
