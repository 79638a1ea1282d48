-- The way back from a raised node, along what raised what.
use Rattle.std.proofs.Common.{◌≡◌, ℕ, zero, suc, ◌<◌, ◌≤◌, ◌⊎◌, List, [], ◌∷◌, ◌++◌, length, drop, pos, ◌<ℤ◌, sym, refl, ap, subst, inl, inr, ⊎_elim, arith}
use Rattle.std.specs.List.{All}
use Rattle.std.proofs.lemmas.List.Elements.{All-nil, All-head, All-tail, All-push, All-drop, All-get_or, All-weaker, Contains-get_or}
use Rattle.lags.specs.declared.Lag.{Lag}
use Rattle.lags.specs.Solved.{at}
use Rattle.lags.specs.Times.{AtLeast, AtMost, LessThan}
use Rattle.lags.specs.Progress.{no_lag, Kept, Keeps, RaisedBy}
use Rattle.lags.specs.Traced.{End, parent, Back, weights, ByParent, Traced}
use Rattle.lags.proofs.Distincts.{Distinct-push, Distinct-drop}
use Rattle.lags.proofs.Times.{at_least_none, at_least_adds, at_most_none, at_most_adds, less_than_adds_left, less_than_adds_right, above_from_less}

module _ (lags : List Lag) (p : ℕ → ℕ) where
  back_push : (v x : ℕ) (xs : List ℕ) → Back lags p v xs x → Back lags p v (xs ++ x ∷ []) (parent lags p x).from
  back_push v x [] b = (sym b, refl)
  back_push v x (y ∷ ys) b = (b.0, back_push (parent lags p y).from x ys b.1)

  back_drop : (v u : ℕ) (xs : List ℕ) (k : ℕ) → k < length xs → Back lags p v xs u → Back lags p (at xs k) (drop k xs) u
  back_drop v u [] k l b = absurd (omega arith)
  back_drop v u (y ∷ ys) zero l b = (refl, b.1)
  back_drop v u (y ∷ ys) (suc k) l b = back_drop (parent lags p y).from u ys k (omega arith) b.1

  module _ (a when : ℕ → ℕ) where
    -- each node was raised
    abbrev pub Raised : List ℕ → Type 0
    Raised xs = All (ByParent lags p a when) xs

    pub Raised-head : (y : ℕ) (ys : List ℕ) → Raised (y ∷ ys) → RaisedBy a when (length lags) y (parent lags p y)
    Raised-head y ys r = (All-head (ByParent lags p a when) y ys r).raised

    pub Raised-tail : (y : ℕ) (ys : List ℕ) → Raised (y ∷ ys) → Raised ys
    Raised-tail y ys r = All-tail (ByParent lags p a when) y ys r

    -- raised nodes are where lags end
    pub raised_ends : (xs : List ℕ) → Raised xs → All (End lags) xs
    raised_ends xs r = All-weaker (ByParent lags p a when) (End lags) (λ y q. (parent lags p y, Contains-get_or lags (p y) no_lag q.named, q.raised.ends)) xs r

    -- on the way back an arrival falls by no more than the lags
    pub back_most : (v u : ℕ) (xs : List ℕ) → Back lags p v xs u → Raised xs → AtMost (a u) (weights lags p xs) (a v)
    back_most v u [] e r = rw e (at_most_none (a u))
    back_most v u (y ∷ ys) b r = rw (← b.0) (at_most_adds (back_most (parent lags p y).from u ys b.1 (Raised-tail y ys r)) (Raised-head y ys r).tight)

    -- and by less where the way comes to a node that was raised after the one that it began at
    pub back_less : (v u : ℕ) (xs : List ℕ) → Back lags p v xs u → Raised xs → (when u ≤ when v) ⊎ LessThan (a u) (weights lags p xs) (a v)
    back_less v u [] e r = inl (omega (arith, ap when e))
    back_less v u (y ∷ ys) b r =
        ⊎_elim
        (λ h. ⊎_elim
        (λ k. inl (omega (arith, ap when b.0)))
        (λ k. inr (rw (← b.0) (less_than_adds_left k (Raised-head y ys r).tight)))
        (back_less (parent lags p y).from u ys b.1 (Raised-tail y ys r)))
        (λ h. inr (rw (← b.0) (less_than_adds_right (back_most (parent lags p y).from u ys b.1 (Raised-tail y ys r)) h)))
        (Raised-head y ys r).older

    -- so a way back to where it began has a sum above zero
    pub round_above : (v : ℕ) (xs : List ℕ) → 0 < length xs → Back lags p v xs v → Raised xs → pos 0 <ℤ weights lags p xs
    round_above v [] h b r = absurd (omega arith)
    round_above v (y ∷ ys) h b r = above_from_less (less (subst (Back lags p (parent lags p y).from ys) (sym b.0) b.1))
      where
        less : Back lags p (parent lags p y).from ys y → LessThan (a y) (weights lags p (y ∷ ys)) (a y)
        less c =
            ⊎_elim
            (λ h. ⊎_elim (λ k. absurd (omega (arith, h, k))) (λ k. less_than_adds_left k (Raised-head y ys r).tight) (back_less (parent lags p y).from y ys c (Raised-tail y ys r)))
            (λ h. less_than_adds_right (back_most (parent lags p y).from y ys c (Raised-tail y ys r)) h)
            (Raised-head y ys r).older

    -- on the way back a solution falls by the lags at least
    pub back_least : (β : ℕ → ℕ) → Keeps lags β → (v u : ℕ) (xs : List ℕ) → Back lags p v xs u → Raised xs → AtLeast (β u) (weights lags p xs) (β v)
    back_least β s v u [] e r = rw e (at_least_none (β u))
    back_least β s v u (y ∷ ys) b r =
        rw (← b.0)
        (at_least_adds (back_least β s (parent lags p y).from u ys b.1 (Raised-tail y ys r)) (subst (λ z. AtLeast (β (parent lags p y).from) (parent lags p y).weight (β z)) (Raised-head y ys r).ends (All-get_or (Kept β) lags (p y) no_lag (All-head (ByParent lags p a when) y ys r).named s)))

    pub traced_none : (v : ℕ) → Traced lags p a when v [] v
    traced_none v = record { way = refl; raised = All-nil (ByParent lags p a when); distinct = λ i j d l m. absurd (omega arith) }

    -- one node further back
    pub traced_more : (v : ℕ) (xs : List ℕ) (x : ℕ) → Traced lags p a when v xs x → ByParent lags p a when x → All (λ y. ¬ y ≡ x) xs
        → Traced lags p a when v (xs ++ x ∷ []) (parent lags p x).from
    traced_more v xs x t q ne =
        record { way = back_push v x xs t.way; raised = All-push (ByParent lags p a when) xs x t.raised q; distinct = Distinct-push xs x t.distinct ne }

    -- the way back from where a node stands to the same node
    pub traced_round : (v : ℕ) (xs : List ℕ) (x k : ℕ) → Traced lags p a when v xs x → k < length xs → at xs k ≡ x → Traced lags p a when x (drop k xs) x
    traced_round v xs x k t l e =
        record { way = rw e at (back_drop v x xs k l t.way); raised = All-drop (ByParent lags p a when) k xs t.raised; distinct = Distinct-drop k xs t.distinct }
