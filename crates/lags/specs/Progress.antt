-- What is kept while arrivals are raised, lag after lag and round after round.
use Rattle.std.specs.Prelude.{◌≡◌, ℕ, ◌+◌, ◌*◌, ◌^◌, ◌<◌, ◌≤◌, ◌⊎◌, List, length, pos, IfSome, None, Option, slice_index_or}
use Rattle.std.specs.List.{All}
use Rattle.lags.specs.declared.Lag.{Lag}
use Rattle.lags.specs.Solved.{at}
use Rattle.lags.specs.Times.{AtLeast, AtMost, LessThan}

-- the lag at an index of the list; what is read past its end never counts
abbrev pub no_lag : Lag
no_lag = record { from = 0; to = 0; weight = pos 0 }

abbrev pub lag_at : List Lag → ℕ → Lag
lag_at lags j = slice_index_or lags j no_lag

-- the arrivals keep the lag
abbrev pub Kept : (ℕ → ℕ) → Lag → Type 0
Kept a g = AtLeast (a g.from) g.weight (a g.to)

abbrev pub Keeps : List Lag → (ℕ → ℕ) → Type 0
Keeps lags a = All (Kept a) lags

-- v was raised last by the lag g, its parent; `when` has the step of each node's last raise, and a round has `many` steps
pub record RaisedBy (a when : ℕ → ℕ) (many v : ℕ) (g : Lag) : Type 0 where
  pub ends : g.to ≡ v
  -- the parent may have been raised again since, and then it was later
  pub tight : AtMost (a g.from) g.weight (a v)
  pub older : (when g.from < when v) ⊎ LessThan (a g.from) g.weight (a v)
  -- a raise after the first round has a cause in the round before
  pub since : many < when v → when v ≤ when g.from + many

-- where things stand: `base` steps were made in earlier rounds and i in this one, a step for each lag; a has the arrivals, and p the number of each node's parent
pub record Progress (lags : List Lag) (base i : ℕ) (a p : ℕ → ℕ) : Type 0 where
  -- the step of each node's last raise, 0 for a node that was not raised
  pub when : ℕ → ℕ
  pub rounds : (base ≡ 0) ⊎ (length lags ≤ base)
  pub past : (v : ℕ) → when v ≤ base + i
  pub low : (v : ℕ) → a v ≤ 100000 * (base + i)
  pub under : (β : ℕ → ℕ) → Keeps lags β → (v : ℕ) → a v ≤ β v
  pub still : (v : ℕ) → when v ≡ 0 → a v ≡ 0
  pub named : (v : ℕ) → 0 < when v → p v < length lags
  pub parent : (v : ℕ) → 0 < when v → RaisedBy a when (length lags) v (lag_at lags (p v))
  -- a lag that was gone through is kept, unless its start was raised since: in this round, and in the one before
  pub early : (j : ℕ) → j < i → Kept a (lag_at lags j) ⊎ (base + j < when (lag_at lags j).from)
  pub late : (j : ℕ) → j < length lags → length lags ≤ base → Kept a (lag_at lags j) ⊎ (base + j < when (lag_at lags j).from + length lags)

-- where things stand, and the node r, if any, was raised after the step `from`
pub record Moved (lags : List Lag) (base i : ℕ) (a p : ℕ → ℕ) (from : ℕ) (r : Option ℕ) : Type 0 where
  pub progress : Progress lags base i a p
  pub moved : IfSome r (λ v. from < progress.when v)

-- no arrival is above `top`
abbrev pub Low : List ℕ → ℕ → Type 0
Low α top = (v : ℕ) → at α v ≤ top

-- a round through all lags has led from the arrivals α and the parents p to α' and p', and raised r last, if any
pub record Round (lags : List Lag) (α p α' p' : List ℕ) (r : Option ℕ) : Type 0 where
  pub progress : (base : ℕ) → Progress lags base 0 (at α) (at p) → Moved lags (base + length lags) 0 (at α') (at p') base r
  pub quiet : r ≡ None → Keeps lags (at α')

-- a round that began at the arrivals α₀ with the parents p₀, has gone through i lags and raised r last, if any
pub record InRound (lags : List Lag) (α₀ p₀ α p : List ℕ) (i : ℕ) (r : Option ℕ) : Type 0 where
  pub low : Low α (2 ^ 59 + 100000 * i)
  pub progress : (base : ℕ) → Progress lags base 0 (at α₀) (at p₀) → Moved lags base i (at α) (at p) base r
  pub quiet : r ≡ None → (j : ℕ) → j < i → Kept (at α) (lag_at lags j)
  pub within : IfSome r (λ v. v < length α₀)
  pub size : length p ≡ 1024
