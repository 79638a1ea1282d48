-- Ways along lags, rings, and arrivals that keep every lag; over any relation that says which lags there are.
use Rattle.std.specs.Prelude.{◌≡◌, ℕ, ◌≤◌, List, [], ◌∷◌, ℤ, pos, ◌+ℤ◌, ◌≤ℤ◌, ◌<ℤ◌, Some}
use Rattle.std.specs.List.{slice_get}

-- `Between s t w`: there is a lag of w from s to t
module _ (Between : ℕ → ℕ → ℤ → Type 0) where
  -- a way along lags from a node, through the listed ones, to another, and the sum of its lags
  pub data Way : ℕ → List ℕ → ℕ → ℤ → Type 0 where
    last : {s t : ℕ} {w : ℤ} → Between s t w → Way s (s ∷ []) t w
    more : {s t r : ℕ} {l : List ℕ} {w x : ℤ} → Between s t w → Way t l r x → Way s (s ∷ l) r (w +ℤ x)

  -- a ring with a lag sum above 0: a way round through distinct nodes, from the lowest of them; a ring whose sum is 0 or
  -- less forbids nothing, and is none here
  pub record Ring (l : List ℕ) : Type 0 where
    pub from : ℕ
    pub sum : ℤ
    pub round : Way from l from sum
    pub above : pos 0 <ℤ sum
    pub distinct : (i j s : ℕ) → slice_get l i ≡ Some s → slice_get l j ≡ Some s → i ≡ j
    pub lowest_first : (i s : ℕ) → slice_get l i ≡ Some s → from ≤ s

  -- arrivals that keep every lag
  abbrev pub Solution : (ℕ → ℕ) → Type 0
  Solution α = (s t : ℕ) (w : ℤ) → Between s t w → (pos (α s) +ℤ w) ≤ℤ pos (α t)

  -- a solution that is at no node later than any other
  abbrev pub Least : (ℕ → ℕ) → Type 0
  Least α = Solution α × ((β : ℕ → ℕ) → Solution β → (v : ℕ) → α v ≤ β v)
