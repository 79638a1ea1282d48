-- A round, as the code goes through it, and the rounds one after another.
use Rattle.std.proofs.Common.{◌≡◌, ℕ, int_lt, ◌+◌, ◌*◌, ◌<◌, ◌≤◌, Bool, true, false, cond, List, length, set, pos, ◌+ℤ◌, Some, Option, sym, ap, ◌∙◌, subst, ⊎_elim, zero-mul, arith}
use Rattle.std.proofs.lemmas.Int.{ints}
use Rattle.std.proofs.lemmas.List.{length-set, get_or-set_same, get_or-set_other}
use Rattle.std.proofs.lemmas.List.Elements.{All-from_get_or}
use Rattle.std.proofs.lemmas.Option.{none-some}
use Rattle.std.proofs.lemmas.Bool.{cases_eq}
use Rattle.lags.specs.declared.Lag.{Lag}
use Rattle.lags.specs.Solved.{at, Allowed}
use Rattle.lags.specs.Times.{LessThan, Exactly, after}
use Rattle.lags.specs.Progress.{lag_at, no_lag, Kept, Progress, Round, Low, InRound}
use Rattle.lags.proofs.Times.{after_is, less_than_from_test, at_least_from_test}
use Rattle.lags.proofs.Raises.{progress_none, progress_round, progress_kept, progress_raised, progress_raised_when}

-- what stands in a list after a write
module _ (xs : List ℕ) (v x : ℕ) (in' : v < length xs) where
  at_here : (w : ℕ) → w ≡ v → at (set xs v x) w ≡ x
  at_here w e = rw e (get_or-set_same xs v x 0 in')

  at_else : (w : ℕ) → (¬ w ≡ v) → at (set xs v x) w ≡ at xs w
  at_else w ne = get_or-set_other xs v w x 0 ne

-- one more lag of a round, which is g
module _ (lags : List Lag) (α₀ p₀ α p : List ℕ) (i : ℕ) (raised : Option ℕ) (h : InRound lags α₀ p₀ α p i raised) (in' : i < length lags) (g : Lag) (is : lag_at lags i ≡ g)
    (allowed : Allowed (length α₀) g) (same : length α ≡ length α₀) (few : length α₀ ≤ 1024) where
  abbrev reach : ℕ
  reach = after (at α g.from) g.weight

  step_kept : Kept (at α) g → InRound lags α₀ p₀ α p (i + 1) raised
  unfolding progress_kept
  step_kept k = record {
    low = λ v. omega (arith, h.low v);
    progress = λ base t. record { progress = progress_kept lags base i (at α) (at p) (h.progress base t).progress (rw is k); moved = (h.progress base t).moved };
    quiet = λ q j l. ⊎_elim (λ e. subst (Kept (at α)) (sym (ap (lag_at lags) e ∙ is)) k) (λ ne. h.quiet q j (omega arith)) (cases_eq j i);
    within = h.within;
    size = h.size;
  }

  module _ (short : LessThan (at α g.from) g.weight (at α g.to)) where
    a_in : g.to < length α
    a_in = omega (arith, allowed.0)

    p_in : g.to < length p
    p_in = omega (arith, allowed.0, h.size)

    reached : (v : ℕ) → v ≡ g.to → Exactly (at α g.from) g.weight (at (set α g.to reach) v)
    reached v e = rw (at_here α g.to reach a_in v e) (after_is short)

    step_raised : InRound lags α₀ p₀ (set α g.to reach) (set p g.to i) (i + 1) (Some g.to)
    step_raised = record {
      low = λ v. ⊎_elim (λ e. omega (arith, ints, reached v e, allowed.1, h.low g.from)) (λ ne. omega (arith, at_else α g.to reach a_in v ne, h.low v)) (cases_eq v g.to);
      progress = λ base t. record {
        progress = progress_raised lags base i (at α) (at p) (at (set α g.to reach)) (at (set p g.to i)) (h.progress base t).progress in' g is allowed.1.1 short reached
            (at_else α g.to reach a_in) (at_here p g.to i p_in) (at_else p g.to i p_in);
        moved = omega (
          arith,
          progress_raised_when lags base i (at α) (at p) (at (set α g.to reach)) (at (set p g.to i)) (h.progress base t).progress in' g is allowed.1.1 short reached
              (at_else α g.to reach a_in) (at_here p g.to i p_in) (at_else p g.to i p_in),
        );
      };
      quiet = λ q. absurd (none-some g.to (sym q));
      within = allowed.0.1;
      size = length-set p g.to i ∙ h.size;
    }

  -- as the code has it: the test, and what the arrivals, the parents and the node raised last are then
  pub round_more : (r : Bool) (α' p' : List ℕ) (raised' : Option ℕ) → r ≡ int_lt (pos (at α g.to)) (pos (at α g.from) +ℤ g.weight) → α' ≡ cond r (set α g.to reach) α
      → p' ≡ cond r (set p g.to i) p → raised' ≡ cond r (Some g.to) raised → InRound lags α₀ p₀ α' p' (i + 1) raised'
  round_more true α' p' raised' e a b q = simp (a, b, q) (step_raised (less_than_from_test (sym e)))
  round_more false α' p' raised' e a b q = simp (a, b, q) (step_kept (at_least_from_test (sym e)))

-- the end of a round
pub round_all : (lags : List Lag) (α₀ p₀ α p : List ℕ) (i : ℕ) (raised : Option ℕ) → i ≡ length lags → InRound lags α₀ p₀ α p i raised → Round lags α₀ p₀ α p raised
unfolding progress_round
round_all lags α₀ p₀ α p i raised e h = record {
  progress = λ base t. let r = rw e at (h.progress base t) in record { progress = progress_round lags base (at α) (at p) r.progress; moved = r.moved };
  quiet = λ q. All-from_get_or (Kept (at α)) lags no_lag (λ j l. h.quiet q j (omega arith));
}

-- no rounds
pub rounds_none : (lags : List Lag) (α : List ℕ) (p : ℕ → ℕ) → Low α 0 → Progress lags (0 * length lags) 0 (at α) p
rounds_none lags α p z = rw zero-mul (progress_none lags (at α) p (λ v. omega (arith, z v)))
