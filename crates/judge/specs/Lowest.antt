-- The lowest number, and the lowest pair of numbers, of which something holds.
use Rattle.std.specs.Prelude.{ℕ, ◌<◌}

abbrev pub Lowest : (ℕ → Type 0) → ℕ → Type 0
Lowest P n = P n × ((m : ℕ) → m < n → ¬ P m)

-- the lowest first of two and, with it, the lowest second
abbrev pub LowestPair : (ℕ → ℕ → Type 0) → ℕ → ℕ → Type 0
LowestPair P s t = P s t × ((r q : ℕ) → r < s → ¬ P r q) × ((q : ℕ) → q < t → ¬ P s q)
