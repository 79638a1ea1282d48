-- Ways, rings and solutions over one relation and over another, and why a ring leaves no solution.
use Rattle.std.proofs.Common.{ℕ, List, ℤ}
use Rattle.lags.specs.Ways.{Way, Ring, Solution, Least}
use Rattle.lags.specs.Ways.Way.{last, more}
use Rattle.lags.specs.Times.{AtLeast}
use Rattle.lags.proofs.Times.{at_least_adds, above_raises}

-- where each lag of A is one of B
module _ (A B : ℕ → ℕ → ℤ → Type 0) (each : (s t : ℕ) (w : ℤ) → A s t w → B s t w) where
  pub way_over : {s : ℕ} {l : List ℕ} {t : ℕ} {w : ℤ} → Way A s l t w → Way B s l t w
  way_over (last h) = last (each _ _ _ h)
  way_over (more h n) = more (each _ _ _ h) (way_over n)

  pub ring_over : (l : List ℕ) → Ring A l → Ring B l
  ring_over l R = record {
    from = R.from;
    sum = R.sum;
    round = way_over R.round;
    above = R.above;
    distinct = R.distinct;
    lowest_first = R.lowest_first;
  }

  pub solution_over : (α : ℕ → ℕ) → Solution B α → Solution A α
  solution_over α k s t w h = k s t w (each s t w h)

  -- and each of B is one of A
  pub least_over : ((s t : ℕ) (w : ℤ) → B s t w → A s t w) → (α : ℕ → ℕ) → Least B α → Least A α
  least_over back α l = (solution_over α l.0, λ β k v. l.1 β (λ s t w h. k s t w (back s t w h)) v)

module _ (Between : ℕ → ℕ → ℤ → Type 0) (α : ℕ → ℕ) (keeps : Solution Between α) where
  -- along a way a solution rises by the way's sum at least
  pub way_rises : {s : ℕ} {l : List ℕ} {t : ℕ} {w : ℤ} → Way Between s l t w → AtLeast (α s) w (α t)
  way_rises (last h) = record { so = keeps _ _ _ h }
  way_rises (more h n) = at_least_adds (record { so = keeps _ _ _ h }) (way_rises n)

  -- so there is none where there is a ring
  pub ring_excludes : (l : List ℕ) → ¬ Ring Between l
  ring_excludes l R = above_raises R.above (way_rises R.round)
