-- The way back after an overrun comes to a node again.
use Rattle.std.proofs.Common.{◌≡◌, ◌≢◌, ℕ, Bool, true, false, IsTrue, IsSome, MatchOption, Option, Some, None, get_or, ◌<◌, ◌≤◌, List, [], ◌∷◌, ◌++◌, length, drop, set, replicate, refl, ap, ◌∙◌, ⊎_elim, mul-le-mul_right, arith}
use Rattle.std.specs.List.{All, Contains}
use Rattle.std.proofs.lemmas.List.{length-set, length_push, length-drop, length-replicate, get_or-set_same, get_or-set_other}
use Rattle.std.proofs.lemmas.List.Elements.{All-nil, All-push, All-get_or, All-weaker, All-contains, Contains-append_left, Contains-push}
use Rattle.std.proofs.lemmas.Bool.{both_ways, cases_eq, cases_lt}
use Rattle.lags.specs.declared.Lag.{Lag}
use Rattle.lags.specs.Solved.{Allowed}
use Rattle.lags.specs.Progress.{no_lag, RaisedBy}
use Rattle.lags.specs.Traced.{Overrun, parent, OverrunTrace, ParentCycle, Met, Tracing}
use Rattle.lags.proofs.Traces.{raised_ends, traced_none, traced_more, traced_round}
use Rattle.lags.proofs.Marks.{no_mark, ends_most, ends_below}

-- marks of no nodes, and of one more
pub met_none : (n : ℕ) → Met [] (replicate n false)
met_none n = record {
  seen = All-nil (λ y. IsTrue (get_or (replicate n false) y false));
  stands = λ y h. absurd (both_ways (get_or (replicate n false) y false) (no_mark n y) h);
}

pub met_more : (xs : List ℕ) (met : List Bool) (x : ℕ) → x < length met → Met xs met → Met (xs ++ x ∷ []) (set met x true)
met_more xs met x b q = record {
  seen = All-push (λ y. IsTrue (get_or (set met x true) y false)) xs x
      (All-weaker (λ y. IsTrue (get_or met y false)) (λ y. IsTrue (get_or (set met x true) y false))
      (λ y h. ⊎_elim (λ same. here y same) (λ ne. rw (other y ne) h) (cases_eq y x)) xs q.seen)
      (here x refl);
  stands = λ y h. ⊎_elim
      (λ e. rw e (Contains-push xs x))
      (λ ne. Contains-append_left xs (x ∷ []) y (q.stands y (rw (other y ne) at h)))
      (cases_eq y x);
}
  where
    here : (y : ℕ) → y ≡ x → get_or (set met x true) y false ≡ true
    here y e = rw e (get_or-set_same met x true false b)

    other : (y : ℕ) → (¬ y ≡ x) → get_or (set met x true) y false ≡ get_or met y false
    other y ne = get_or-set_other met x y true false ne

-- a node that is not marked is none of them
unmet : (xs : List ℕ) (met : List Bool) (x : ℕ) → Met xs met → get_or met x false ≡ false → All (λ y. ¬ y ≡ x) xs
unmet xs met x q z =
    All-weaker (λ y. IsTrue (get_or met y false)) (λ y. ¬ y ≡ x) (λ y h e. both_ways (get_or met y false) (ap (λ v. get_or met v false) e ∙ z) h) xs q.seen

pub overrun_trace_none : (lags : List Lag) (p : ℕ → ℕ) (v : ℕ) → Overrun lags p v → OverrunTrace lags p v [] v
overrun_trace_none lags p v o = record {
  over = o;
  traced = traced_none lags p o.a o.progress.when v;
  late = omega (arith, o.moved);
}

module _ (lags : List Lag) (p : ℕ → ℕ) (v : ℕ) (xs : List ℕ) (x : ℕ) (c : OverrunTrace lags p v xs x) where
  was_raised : 0 < c.over.progress.when x
  was_raised =
      let e = raised_ends lags p c.over.a c.over.progress.when xs c.traced.raised in
      omega (arith, c.late, mul-le-mul_right (length lags) (ends_most lags c.over.m c.over.ends xs e c.traced.distinct))

  pub overrun_trace_named : p x < length lags
  overrun_trace_named = c.over.progress.named x was_raised

  module _ (met : List Bool) (q : Met xs met) (z : get_or met x false ≡ false) where
    pub overrun_trace_more : OverrunTrace lags p v (xs ++ x ∷ []) (parent lags p x).from
    overrun_trace_more =
        let r : RaisedBy c.over.a c.over.progress.when (length lags) x (parent lags p x) = c.over.progress.parent x was_raised in
        record {
          over = c.over;
          traced = traced_more lags p c.over.a c.over.progress.when v xs x c.traced (record { named = overrun_trace_named; raised = r }) (unmet xs met x q z);
          late = rw (length_push xs x)
              (⊎_elim (λ h. omega (arith, c.late, r.since h)) (λ h. omega (arith, c.late)) (cases_lt (length lags) (c.over.progress.when x)));
        }

    -- there is room for one more node
    pub overrun_trace_room : (n : ℕ) → All (Allowed n) lags → length xs < n
    overrun_trace_room n a =
        let d = overrun_trace_more in
        let e = raised_ends lags p d.over.a d.over.progress.when (xs ++ x ∷ []) d.traced.raised in
        omega (arith, ends_below lags n a (xs ++ x ∷ []) e d.traced.distinct, length_push xs x)

  pub overrun_trace_round : (k : ℕ) → k < length xs → get_or xs k 0 ≡ x → ParentCycle lags p (drop k xs)
  overrun_trace_round k l h =
      record {
        a = c.over.a;
        when = c.over.progress.when;
        node = x;
        traced = traced_round lags p c.over.a c.over.progress.when v xs x k c.traced l h;
        some = omega (arith, length-drop k xs, l);
      }

-- the same as the loop meets it
pub tracing_none : (lags : List Lag) (p : ℕ → ℕ) (n v : ℕ) → v < n → Overrun lags p v → Tracing lags p n v [] (replicate 1024 false) v
tracing_none lags p n v b o = record { trace = overrun_trace_none lags p v o; marked = met_none 1024; inside = b; size = length-replicate 1024 false }

module _ (lags : List Lag) (p : ℕ → ℕ) (n v : ℕ) (xs : List ℕ) (met : List Bool) (x : ℕ) (t : Tracing lags p n v xs met x) where
  pub tracing_named : p x < length lags
  tracing_named = overrun_trace_named lags p v xs x t.trace

  -- a node that is marked is one of those that were gone through
  pub tracing_met : IsTrue (get_or met x false) → Contains xs x
  tracing_met h = t.marked.stands x h

  pub tracing_done : (k : ℕ) → k < length xs → get_or xs k 0 ≡ x → ParentCycle lags p (drop k xs)
  tracing_done k l h = overrun_trace_round lags p v xs x t.trace k l h

  module _ (allowed : All (Allowed n) lags) (z : get_or met x false ≡ false) where
    pub tracing_room : length xs < n
    tracing_room = overrun_trace_room lags p v xs x t.trace met t.marked z n allowed

    pub tracing_more : n ≤ 1024 → Tracing lags p n v (xs ++ x ∷ []) (set met x true) (parent lags p x).from
    tracing_more few =
        let b : x < length met = omega (arith, t.inside, t.size) in
        record {
          trace = overrun_trace_more lags p v xs x t.trace met t.marked z;
          marked = met_more xs met x b t.marked;
          inside = (All-get_or (Allowed n) lags (p x) no_lag tracing_named allowed).0.0;
          size = length-set met x true ∙ t.size;
        }

-- a node that is among the nodes is found there
pub found : (xs : List ℕ) (x : ℕ) (r : Option ℕ) → MatchOption r (All (λ y. y ≢ x) xs) (λ k. (k < length xs) × (get_or xs k 0 ≡ x)) → Contains xs x → IsSome r
found xs x None h c = absurd (All-contains (λ y. y ≢ x) xs x h c refl)
found xs x (Some k) h c = refl
