-- The way back from a node that was raised, along what raised what.
use Rattle.std.specs.Prelude.{◌≡◌, ℕ, ◌+◌, ◌*◌, ◌<◌, ◌≤◌, Bool, false, List, [], ◌∷◌, ◌++◌, reverse, length, take, ℤ, pos, ◌+ℤ◌, ◌↔◌, IsTrue, count_by, ◌≢◌, slice_index_or}
use Rattle.std.specs.List.{Contains, All, AllPairs}
use Rattle.lags.specs.declared.Lag.{Lag}
use Rattle.lags.specs.Progress.{lag_at, RaisedBy, Progress}

abbrev pub Distinct : List ℕ → Type 0
Distinct xs = AllPairs (λ x y. x ≢ y) xs

-- some lag ends at v
abbrev pub End : List Lag → ℕ → Type 0
End lags v = (g : Lag) × Contains lags g × (g.to ≡ v)

-- the lags end at m nodes: as many as there are marks, and the marked nodes are the ends
pub record EndCount (lags : List Lag) (m : ℕ) : Type 0 where
  pub marks : List Bool
  pub marked : (v : ℕ) → IsTrue (slice_index_or marks v false) ↔ End lags v
  pub many : m ≡ count_by (λ b. b) marks

-- the marked nodes are those where the first i lags end, n of them
pub record Marking (lags : List Lag) (i : ℕ) (marks : List Bool) (n : ℕ) : Type 0 where
  pub marked : (v : ℕ) → IsTrue (slice_index_or marks v false) ↔ End (take i lags) v
  pub many : n ≡ count_by (λ b. b) marks
  pub size : length marks ≡ 1024

-- one more round than the lags end at nodes was made, each raised something, and the last of them raised v last
pub record Overrun (lags : List Lag) (p : ℕ → ℕ) (v : ℕ) : Type 0 where
  pub m : ℕ
  pub a : ℕ → ℕ
  pub ends : EndCount lags m
  pub progress : Progress lags (m * length lags + length lags) 0 a p
  pub moved : m * length lags < progress.when v

module _ (lags : List Lag) (p : ℕ → ℕ) where
  -- the lag that raised y last
  abbrev pub parent : ℕ → Lag
  parent y = lag_at lags (p y)

  -- from v back through the nodes xs, each to the one that raised it, one comes to u
  abbrev pub Back : ℕ → List ℕ → ℕ → Type 0
  Back v [] u = v ≡ u
  Back v (y ∷ ys) u = (y ≡ v) × Back (parent y).from ys u

  -- the sum of the lags that raised the nodes
  abbrev pub weights : List ℕ → ℤ
  weights [] = pos 0
  weights (y ∷ ys) = weights ys +ℤ (parent y).weight

  -- y was raised, last by its parent, which is one of the lags
  pub record ByParent (a when : ℕ → ℕ) (y : ℕ) : Type 0 where
    pub named : p y < length lags
    pub raised : RaisedBy a when (length lags) y (parent y)

  -- the way back from v, through distinct nodes that were raised
  pub record Traced (a when : ℕ → ℕ) (v : ℕ) (xs : List ℕ) (u : ℕ) : Type 0 where
    pub way : Back v xs u
    pub raised : All (ByParent a when) xs
    pub distinct : Distinct xs

  -- the way back after an overrun, short enough that u was raised too
  pub record OverrunTrace (v : ℕ) (xs : List ℕ) (u : ℕ) : Type 0 where
    pub over : Overrun lags p v
    pub traced : Traced over.a over.progress.when v xs u
    pub late : over.m * length lags < over.progress.when u + length xs * length lags

  -- a way back to where it began, of at least one node
  pub record ParentCycle (xs : List ℕ) : Type 0 where
    pub a : ℕ → ℕ
    pub when : ℕ → ℕ
    pub node : ℕ
    pub traced : Traced a when node xs node
    pub some : 0 < length xs

-- the nodes that are marked as met are those of xs
pub record Met (xs : List ℕ) (met : List Bool) : Type 0 where
  pub seen : All (λ y. IsTrue (slice_index_or met y false)) xs
  pub stands : (y : ℕ) → IsTrue (slice_index_or met y false) → Contains xs y

-- the way back from v through the nodes xs has come to x, one of the first `nodes`
pub record Tracing (lags : List Lag) (p : ℕ → ℕ) (nodes v : ℕ) (xs : List ℕ) (met : List Bool) (x : ℕ) : Type 0 where
  pub trace : OverrunTrace lags p v xs x
  pub marked : Met xs met
  pub inside : x < nodes
  pub size : length met ≡ 1024

-- the numbers in the opposite order, going round from the lowest
pub record Turned (xs ys : List ℕ) : Type 0 where
  pub front : List ℕ
  pub low : ℕ
  pub rest : List ℕ
  pub splits : xs ≡ front ++ low ∷ rest
  pub turns : ys ≡ low ∷ reverse (rest ++ front)
  pub least : All (λ x. low ≤ x) xs
