-- One more lag, while the lags are gathered.
use Rattle.std.proofs.Common.{◌≡◌, ℕ, ◌+◌, ◌⊎◌, List, [], ◌∷◌, ◌++◌, slice_index_or, None, subst, inr, ⊎_elim, arith, rules}
use Rattle.std.proofs.lemmas.List.Elements.{Contains-append_left, Contains-push, Contains-push_cases}
use Rattle.sheet.specs.declared.records.Precedence.{Precedence}
use Rattle.sheet.specs.declared.records.Stop.{Stop}
use Rattle.sheet.specs.Records.{no_precedence, no_stop}
use Rattle.lags.specs.declared.Lag.{Lag}
use Rattle.judge.specs.declared.legs.Leg.{Leg}
use Rattle.judge.specs.Legs.{next_after}
use Rattle.judge.specs.Waits.{Travel, Waiting, Lists, LagOf}

module _ (P Q : Lag → Type 0) (lags : List Lag) (old : Lists P lags) where
  -- no lag more
  lists_kept : ((g : Lag) → P g → Q g) → ((g : Lag) → Q g → P g) → Lists Q lags
  lists_kept to from g = search rules

  -- one lag more
  lists_more : (g : Lag) → ((h : Lag) → P h → Q h) → Q g → ((h : Lag) → Q h → P h ⊎ (h ≡ g)) → Lists Q (lags ++ g ∷ [])
  lists_more g to new from h = (
    λ c. ⊎_elim (λ p. to h ((old h).0 p)) (λ e. subst Q e new) (Contains-push_cases lags g h c),
    λ q. ⊎_elim
        (λ p. Contains-append_left lags (g ∷ []) h ((old h).1 p))
        (λ e. rw e (Contains-push lags g))
        (from h q),
  )

module _ (stops : List Stop) (legs : List Leg) (t : ℕ) (lags : List Lag) (old : Lists (Travel stops legs t) lags) where
  -- a route's first stop
  pub step_none : (slice_index_or stops t no_stop).previous ≡ None → Lists (Travel stops legs (t + 1)) lags
  step_none none = lists_kept (Travel stops legs t) (Travel stops legs (t + 1)) lags old (λ g v. search rules) (λ g v. grind arith)

  -- a stop with one before it
  pub step_more : (g : Lag) → g.to ≡ t → Travel stops legs (t + 1) g → Lists (Travel stops legs (t + 1)) (lags ++ g ∷ [])
  step_more g at step =
      lists_more (Travel stops legs t) (Travel stops legs (t + 1)) lags old g (λ h v. search rules) step
      (λ h v. grind (arith, v.within, v.step, v.weighs, step.step, step.weighs))

module _ (gap : ℕ → ℕ → ℕ → ℕ) (stops : List Stop) (legs : List Leg) (ps : List Precedence) (n m : ℕ) (lags : List Lag) (old : Lists (LagOf gap stops legs ps n m) lags) where
  abbrev More : Lag → Type 0
  More = LagOf gap stops legs ps n (m + 1)

  -- a precedence whose first carrier goes no further
  pub wait_none : next_after legs (slice_index_or ps m no_precedence).first_stop ≡ None → Lists More lags
  wait_none none = lists_kept (LagOf gap stops legs ps n m) More lags old (λ g l. search rules) (λ g l. grind arith)

  -- a precedence with its lag, of which it has one at most
  pub wait_more : (g : Lag) → Waiting gap stops legs (slice_index_or ps m no_precedence) g → Lists More (lags ++ g ∷ [])
  wait_more g w =
      let one : (h : Lag) → Waiting gap stops legs (slice_index_or ps m no_precedence) h → h ≡ g = λ h v. grind (arith, v.from_next, w.from_next, v.to_second, w.to_second, v.weighs, w.weighs) in
      lists_more (LagOf gap stops legs ps n m) More lags old g (λ h l. search rules) (inr (m, omega arith, w)) (λ h l. grind (arith, one h))
