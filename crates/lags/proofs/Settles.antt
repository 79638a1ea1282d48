-- What the last round leaves: the least arrivals, or an overrun.
use Rattle.std.proofs.Common.{◌≡◌, ℕ, ◌*◌, ◌<◌, List, length, IfSome, Some, None, Option, refl, MatchOption}
use Rattle.std.specs.List.{All}
use Rattle.lags.specs.declared.Lag.{Lag}
use Rattle.lags.specs.Solved.{at, Allowed, Earliest}
use Rattle.lags.specs.Progress.{Progress, Round}
use Rattle.lags.specs.Traced.{EndCount, Overrun}
use Rattle.lags.proofs.Ceilings.{earliest}

-- the round after those that were made for each node where a lag ends
pub last_round : (lags : List Lag) (n k m : ℕ) (α p α' p' : List ℕ) (r : Option ℕ) → k ≡ m → EndCount lags m → Progress lags (k * length lags) 0 (at α) (at p) → Round lags α p α' p' r
    → IfSome r (λ v. v < n) → All (Allowed n) lags → length α' ≡ n → MatchOption r (Earliest lags α') (λ v. Overrun lags (at p') v × (v < n))
last_round lags n k m α p α' p' None e ends t round within allowed l = earliest lags _ _ n α' (at p') (round.progress (k * length lags) t).progress (round.quiet refl) allowed l
last_round lags n k m α p α' p' (Some v) e ends t round within allowed l =
    let w = round.progress (m * length lags) (rw e at t) in (record { m = m; a = at α'; ends = ends; progress = w.progress; moved = w.moved }, within)
