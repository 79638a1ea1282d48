-- One step of a round: a lag that is kept is passed over, and one that is not raises the node where it ends.
use Rattle.std.proofs.Common.{◌≡◌, ℕ, ◌+◌, ◌<◌, ◌≤◌, cond, eqb, List, length, pos, ◌≤ℤ◌, sym, refl, ap, ◌∙◌, subst, inl, inr, ⊎_elim, arith}
use Rattle.std.proofs.lemmas.Int.{ints}
use Rattle.std.proofs.lemmas.List.Elements.{All-get_or}
use Rattle.std.proofs.lemmas.Bool.{cases_eq, eq-eqb, ne_eqb}
use Rattle.lags.specs.declared.Lag.{Lag}
use Rattle.lags.specs.Times.{LessThan, Exactly}
use Rattle.lags.specs.Progress.{lag_at, no_lag, Kept, RaisedBy, Progress}
use Rattle.lags.proofs.Times.{exactly_at_least, exactly_at_most, raised_above, at_most_later, less_than_later, less_than_still, no_later, at_least_later, not_both}

-- before the first round
pub progress_none : (lags : List Lag) (a p : ℕ → ℕ) → ((v : ℕ) → a v ≡ 0) → Progress lags 0 0 a p
progress_none lags a p z =
    record {
      when = λ _. 0;
      rounds = inl refl;
      past = λ v. omega arith;
      low = λ v. omega (arith, z v);
      under = λ β s v. omega (arith, z v);
      still = λ v _. z v;
      named = λ v h. absurd (omega arith);
      parent = λ v h. absurd (omega arith);
      early = λ j h. absurd (omega arith);
      late = λ j h b. absurd (omega arith);
    }

-- the end of a round
unfoldable pub progress_round : (lags : List Lag) (base : ℕ) (a p : ℕ → ℕ) → Progress lags base (length lags) a p → Progress lags (base + length lags) 0 a p
progress_round lags base a p t =
    record {
      when = t.when;
      rounds = inr (omega arith);
      past = λ v. omega (arith, t.past v);
      low = λ v. omega (arith, t.low v);
      under = t.under;
      still = t.still;
      named = t.named;
      parent = t.parent;
      early = λ j h. absurd (omega arith);
      late = λ j h b. ⊎_elim (λ k. inl k) (λ k. inr (omega arith)) (t.early j h);
    }

-- a lag that is kept
unfoldable pub progress_kept : (lags : List Lag) (base i : ℕ) (a p : ℕ → ℕ) → Progress lags base i a p → Kept a (lag_at lags i) → Progress lags base (i + 1) a p
progress_kept lags base i a p t k =
    record {
      when = t.when;
      rounds = t.rounds;
      past = λ v. omega (arith, t.past v);
      low = λ v. omega (arith, t.low v);
      under = t.under;
      still = t.still;
      named = t.named;
      parent = t.parent;
      early = λ j h. ⊎_elim (λ e. inl (subst (λ n. Kept a (lag_at lags n)) (sym e) k)) (λ ne. t.early j (omega arith)) (cases_eq j i);
      late = t.late;
    }

-- f with the value x at v
abbrev put : (ℕ → ℕ) → ℕ → ℕ → ℕ → ℕ
put f v x w = cond (eqb w v) x (f w)

-- a lag g that raises the node where it ends from a to a', and becomes its parent
module _ (lags : List Lag) (base i : ℕ) (a p a' p' : ℕ → ℕ) (t : Progress lags base i a p) (in' : i < length lags) (g : Lag) (is : lag_at lags i ≡ g)
    (light : g.weight ≤ℤ pos 100000) (short : LessThan (a g.from) g.weight (a g.to))
    (a_here : (v : ℕ) → v ≡ g.to → Exactly (a g.from) g.weight (a' v)) (a_else : (v : ℕ) → (¬ v ≡ g.to) → a' v ≡ a v)
    (p_here : (v : ℕ) → v ≡ g.to → p' v ≡ i) (p_else : (v : ℕ) → (¬ v ≡ g.to) → p' v ≡ p v) where
  abbrev when' : ℕ → ℕ
  when' = put t.when g.to (base + i + 1)

  w_here : (v : ℕ) → v ≡ g.to → when' v ≡ base + i + 1
  w_here v e = rw (eq-eqb v g.to e)

  w_else : (v : ℕ) → (¬ v ≡ g.to) → when' v ≡ t.when v
  w_else v ne = rw (ne_eqb v g.to ne)

  w_up : (v : ℕ) → t.when v ≤ when' v
  w_up v = ⊎_elim (λ e. omega (arith, w_here v e, t.past v)) (λ ne. omega (arith, w_else v ne)) (cases_eq v g.to)

  -- the raised node is later than it was, and no node is earlier
  above : (v : ℕ) → v ≡ g.to → a v < a' v
  above v e = omega (arith, raised_above short (a_here v e), ap a e)

  a_up : (v : ℕ) → a v ≤ a' v
  a_up v = ⊎_elim (λ e. omega (arith, above v e)) (λ ne. omega (arith, a_else v ne)) (cases_eq v g.to)

  new_parent : (v : ℕ) → v ≡ g.to → RaisedBy a' when' (length lags) v g
  new_parent v e = record {
    ends = sym e;
    tight = at_most_later (a_up g.from) (exactly_at_most (a_here v e));
    -- a lag from a node to itself raised its own start
    older = ⊎_elim
        (λ f. inr (less_than_later (above g.from f) (exactly_at_most (a_here v e))))
        (λ f. inl (omega (arith, w_here v e, w_else g.from f, t.past g.from)))
        (cases_eq g.from g.to);
    since = λ h. ⊎_elim
        (λ f. omega (arith, w_here v e, w_here g.from f))
        (λ f. omega (arith, w_here v e, w_else g.from f, t.rounds, caused))
        (cases_eq g.from g.to);
  }
    where
      -- the lag was not kept, so its start was raised since it was last gone through
      caused : length lags ≤ base → base + i < t.when g.from + length lags
      caused b = ⊎_elim (λ k. absurd (not_both (rw is at k) short)) (λ k. rw is at k) (t.late i in' b)

  old_parent : (v : ℕ) (h : Lag) → (¬ v ≡ g.to) → RaisedBy a t.when (length lags) v h → RaisedBy a' when' (length lags) v h
  old_parent v h ne q = record {
    ends = q.ends;
    tight = rw (a_else v ne) (at_most_later (a_up h.from) q.tight);
    older = ⊎_elim
        (λ e. inr (rw (a_else v ne) (less_than_later (above h.from e) q.tight)))
        (λ e. ⊎_elim (λ k. inl (omega (arith, w_else v ne, w_else h.from e))) (λ k. inr (rw (a_else v ne) (less_than_still (a_up h.from) k))) q.older)
        (cases_eq h.from g.to);
    since = λ k. omega (arith, w_else v ne, w_up h.from, q.since);
  }

  -- a lag from elsewhere stays kept
  stays_kept : (h : Lag) → (¬ h.from ≡ g.to) → Kept a h → Kept a' h
  stays_kept h ne k = rw (a_else h.from ne) (at_least_later (a_up h.to) k)

  pub progress_raised : Progress lags base (i + 1) a' p'
  progress_raised = record {
    when = when';
    rounds = t.rounds;
    past = λ v. ⊎_elim (λ e. omega (arith, w_here v e)) (λ ne. omega (arith, w_else v ne, t.past v)) (cases_eq v g.to);
    low = λ v. ⊎_elim (λ e. omega (arith, ints, a_here v e, t.low g.from)) (λ ne. omega (arith, a_else v ne, t.low v)) (cases_eq v g.to);
    under = λ β s v. ⊎_elim
        (λ e. rw e (no_later (t.under β s g.from) (exactly_at_most (a_here g.to refl)) (rw is at (All-get_or (Kept β) lags i no_lag in' s))))
        (λ ne. omega (arith, a_else v ne, t.under β s v))
        (cases_eq v g.to);
    still = λ v z. ⊎_elim (λ e. omega (arith, w_here v e)) (λ ne. a_else v ne ∙ t.still v (sym (w_else v ne) ∙ z)) (cases_eq v g.to);
    named = λ v z. ⊎_elim (λ e. omega (arith, p_here v e)) (λ ne. rw (p_else v ne) (t.named v (omega (arith, w_else v ne)))) (cases_eq v g.to);
    parent = λ v z. ⊎_elim
        (λ e. rw (p_here v e, is) (new_parent v e))
        (λ ne. rw (p_else v ne) (old_parent v (lag_at lags (p v)) ne (t.parent v (omega (arith, w_else v ne)))))
        (cases_eq v g.to);
    early = λ j h. ⊎_elim
        (λ e. inr (omega (arith, w_here (lag_at lags j).from e)))
        (λ ne. ⊎_elim
        (λ e. inl (subst (Kept a') (sym (ap (lag_at lags) e ∙ is)) (kept_now (subst (λ f. ¬ f.from ≡ g.to) (ap (lag_at lags) e ∙ is) ne))))
        (λ nj. ⊎_elim (λ k. inl (stays_kept (lag_at lags j) ne k)) (λ k. inr (omega (arith, w_else (lag_at lags j).from ne))) (t.early j (omega arith)))
        (cases_eq j i))
        (cases_eq (lag_at lags j).from g.to);
    late = λ j h b. ⊎_elim
        (λ e. inr (omega (arith, w_here (lag_at lags j).from e)))
        (λ ne. ⊎_elim (λ k. inl (stays_kept (lag_at lags j) ne k)) (λ k. inr (omega (arith, w_else (lag_at lags j).from ne))) (t.late j h b))
        (cases_eq (lag_at lags j).from g.to);
  }
    where
      kept_now : (¬ g.from ≡ g.to) → Kept a' g
      kept_now ne = rw (a_else g.from ne) (exactly_at_least (a_here g.to refl))

  pub progress_raised_when : progress_raised.when g.to ≡ base + i + 1
  unfolding progress_raised
  progress_raised_when = w_here g.to refl
