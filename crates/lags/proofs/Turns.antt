-- The way back round, read forward from its lowest node, is a ring.
use Rattle.std.proofs.Common.{◌≡◌, ℕ, ◌≤◌, List, [], ◌∷◌, ◌++◌, reverse, length, take, drop, ℤ, ◌+ℤ◌, sym, refl, ◌∙◌, subst, arith}
use Rattle.std.specs.List.{All}
use Rattle.std.proofs.lemmas.List.{append_assoc, append-nil, reverse-append}
use Rattle.std.proofs.lemmas.List.Elements.{All-head, All-tail, Contains-get_or}
use Rattle.std.proofs.lemmas.List.Sorted.{All-permutation, IsPermutation-trans, IsPermutation-reverse, IsPermutation-append_comm, IsPermutation-append_right}
use Rattle.std.proofs.lemmas.Option.{slice_get_within, get_or_from_slice_get}
use Rattle.std.specs.List.Sorted.{IsPermutation}
use Rattle.lags.specs.declared.Lag.{Lag}
use Rattle.lags.specs.Ways.{Way, Ring}
use Rattle.lags.specs.Ways.Way.{last, more}
use Rattle.lags.specs.Solved.{Listed, Allowed, Looped}
use Rattle.lags.specs.Progress.{no_lag}
use Rattle.lags.specs.Traced.{parent, Back, weights, ByParent, ParentCycle, Turned}
use Rattle.lags.proofs.Times.{sum_none, sum_assoc}
use Rattle.lags.proofs.Traces.{Raised-tail, raised_ends, round_above}
use Rattle.lags.proofs.Distincts.{Distinct-slice_get, Distinct-permutation}
use Rattle.lags.proofs.Marks.{ends_below}
use Rattle.lags.proofs.Ways.{ring_excludes}

module _ (lags : List Lag) (p : ℕ → ℕ) where
  back_split : (v u y : ℕ) (xs ys : List ℕ) → Back lags p v (xs ++ y ∷ ys) u → Back lags p v xs y × Back lags p y (y ∷ ys) u
  back_split v u y [] ys b = (sym b.0, (refl, b.1))
  back_split v u y (x ∷ xs) ys b = let r = back_split (parent lags p x).from u y xs ys b.1 in ((b.0, r.0), r.1)

  back_append : (v u w : ℕ) (xs ys : List ℕ) → Back lags p v xs u → Back lags p u ys w → Back lags p v (xs ++ ys) w
  back_append v u w [] ys b d = rw b d
  back_append v u w (x ∷ xs) ys b d = (b.0, back_append (parent lags p x).from u w xs ys b.1 d)

  module _ (a when : ℕ → ℕ) where
    lag_to : (y : ℕ) → ByParent lags p a when y → Listed lags (parent lags p y).from y (parent lags p y).weight
    lag_to y r = subst (λ t. Listed lags (parent lags p y).from t (parent lags p y).weight) r.raised.ends (Contains-get_or lags (p y) no_lag r.named)

    -- a way from y, and before it the way back from y read forward
    forward : (y u : ℕ) (xs l : List ℕ) (t : ℕ) (w : ℤ) → Back lags p y xs u → All (ByParent lags p a when) xs → Way (Listed lags) y (y ∷ l) t w
        → (s : ℤ) × Way (Listed lags) u (u ∷ reverse xs ++ l) t s × (s ≡ (weights lags p xs +ℤ w))
    forward y u [] l t w b r h = (w, rw (← b) h, sum_none w)
    forward y u (x ∷ xs) l t w b r h =
        let g : Way (Listed lags) (parent lags p x).from ((parent lags p x).from ∷ x ∷ l) t ((parent lags p x).weight +ℤ w) = more (lag_to x (All-head (ByParent lags p a when) x xs r)) (rw (← b.0) at h) in
        let q = forward (parent lags p x).from u xs (x ∷ l) t ((parent lags p x).weight +ℤ w) b.1 (Raised-tail lags p a when x xs r) g in
        (q.0, rw (reverse-append (x ∷ []) xs, append_assoc (reverse xs) (x ∷ []) l) q.1, q.2 ∙ sum_assoc (weights lags p xs) (parent lags p x).weight w)

  module _ (xs ys : List ℕ) (c : ParentCycle lags p xs) (t : Turned xs ys) where
    -- the way back round, from the lowest node on
    turned_way : Back lags p t.low (t.low ∷ t.rest ++ t.front) t.low
    turned_way =
        let s = back_split c.node c.node t.low t.front t.rest (rw t.splits at c.traced.way) in
        back_append t.low c.node t.low (t.low ∷ t.rest) t.front s.1 s.0

    -- the way back round has the same nodes, and so has the ring
    round_permutes : IsPermutation xs (t.low ∷ t.rest ++ t.front)
    round_permutes = rw t.splits (IsPermutation-append_comm t.front (t.low ∷ t.rest))

    ring_permutes : IsPermutation xs (t.low ∷ reverse (t.rest ++ t.front))
    ring_permutes =
        IsPermutation-trans xs (t.low ∷ t.rest ++ t.front) (t.low ∷ reverse (t.rest ++ t.front)) round_permutes
        (IsPermutation-append_right (t.low ∷ []) (t.rest ++ t.front) (reverse (t.rest ++ t.front)) (IsPermutation-reverse (t.rest ++ t.front)))

    turned_ring : Ring (Listed lags) (t.low ∷ reverse (t.rest ++ t.front))
    turned_ring =
        let P = ByParent lags p c.a c.when in
        let r = All-permutation P xs (t.low ∷ t.rest ++ t.front) round_permutes c.traced.raised in
        let f = forward c.a c.when (parent lags p t.low).from t.low (t.rest ++ t.front) [] t.low (parent lags p t.low).weight turned_way.1 (All-tail P t.low (t.rest ++ t.front) r)
        (last (lag_to c.a c.when t.low (All-head P t.low (t.rest ++ t.front) r))) in
        let g = round_above lags p c.a c.when t.low (t.low ∷ t.rest ++ t.front) (omega arith) turned_way r in
        record {
          from = t.low;
          sum = f.0;
          round = rw append-nil at f.1;
          above = rw f.2 g;
          distinct = Distinct-slice_get (t.low ∷ reverse (t.rest ++ t.front)) (Distinct-permutation xs (t.low ∷ reverse (t.rest ++ t.front)) ring_permutes c.traced.distinct);
          lowest_first = λ i s e.
              rw (← get_or_from_slice_get (t.low ∷ reverse (t.rest ++ t.front)) i s 0 e)
              (All-permutation (λ x. t.low ≤ x) xs (t.low ∷ reverse (t.rest ++ t.front)) ring_permutes t.least i 0 (slice_get_within (t.low ∷ reverse (t.rest ++ t.front)) i s e));
        }

    pub ring : Ring (Listed lags) ys
    ring = rw t.turns turned_ring

  pub cycle_short : (xs : List ℕ) → ParentCycle lags p xs → (n : ℕ) → All (Allowed n) lags → length xs ≤ n
  cycle_short xs c n h = ends_below lags n h xs (raised_ends lags p c.a c.when xs c.traced.raised) c.traced.distinct

  -- a ring on the front of a page
  pub looped : (xs before after : List ℕ) (k : ℕ) → ParentCycle lags p xs → length xs ≡ k → Turned xs (take (length xs) after) → drop (length xs) after ≡ drop (length xs) before
      → (n : ℕ) → All (Allowed n) lags → Looped lags n k before after
  looped xs before after k c l t s n h =
      let r : Ring (Listed lags) (take k after) = rw l at (ring xs (take (length xs) after) c t) in
      record { ring = r; within = omega (arith, cycle_short xs c n h); stands = rw l at s; unsolvable = λ α q. ring_excludes (Listed lags) α q (take k after) r }
