-- Where there is a solution, arrivals that were raised only where a lag was not kept are at most n - 1 times the greatest weight; and such arrivals that keep every lag are the least.
use Rattle.std.proofs.Common.{◌≡◌, ℕ, zero, suc, ◌+◌, ◌-◌, ◌*◌, ◌<◌, ◌≤◌, List, [], ◌∷◌, ◌++◌, length, drop, pos, ◌≤ℤ◌, sym, ⊎_elim, mul-le-mul_right, arith}
use Rattle.std.proofs.lemmas.Int.{ints}
use Rattle.std.specs.List.{Contains, All}
use Rattle.std.proofs.lemmas.List.{length_push, length-drop, get_or_past}
use Rattle.std.proofs.lemmas.List.Elements.{All-head, All-cons, All-get_or, All-from_get_or, All-contains, All-contains_itself, All-weaker}
use Rattle.std.proofs.lemmas.List.Kept.{AllPairs-cons}
use Rattle.std.proofs.lemmas.Bool.{cases_eq, cases_lt}
use Rattle.lags.specs.declared.Lag.{Lag}
use Rattle.lags.specs.Ways.{Solution}
use Rattle.lags.specs.Solved.{at, Allowed, Under, Listed, Earliest}
use Rattle.lags.specs.Progress.{no_lag, Kept, Keeps, Progress}
use Rattle.lags.specs.Traced.{parent, weights, ByParent, Traced}
use Rattle.lags.proofs.Times.{above_raises}
use Rattle.lags.proofs.Traces.{Raised-tail, raised_ends, back_most, back_least, round_above, traced_none, traced_more, traced_round}
use Rattle.lags.proofs.Marks.{ends_inside}
use Rattle.lags.proofs.Distincts.{length-le_from_below}

module _ (lags : List Lag) (p : ℕ → ℕ) (a when : ℕ → ℕ) where
  weights_under : (w : ℕ) → Under lags w → (xs : List ℕ) → All (ByParent lags p a when) xs → weights lags p xs ≤ℤ pos (length xs * w)
  weights_under w q [] r = omega (arith, ints)
  weights_under w q (y ∷ ys) r = omega (arith, ints, weights_under w q ys (Raised-tail lags p a when y ys r), All-get_or (λ g. g.weight ≤ℤ pos w) lags (p y) no_lag (All-head (ByParent lags p a when) y ys r).named q)

module _ (lags : List Lag) (base i : ℕ) (a p : ℕ → ℕ) (t : Progress lags base i a p) (β : ℕ → ℕ) (s : Keeps lags β) (n w : ℕ) (allowed : All (Allowed n) lags) (q : Under lags w) where
  abbrev Trace : ℕ → List ℕ → ℕ → Type 0
  Trace v xs x = Traced lags p a t.when v xs x

  -- the way back comes to no node twice
  apart : (v : ℕ) (xs : List ℕ) (x : ℕ) → Trace v xs x → All (λ y. ¬ y ≡ x) xs
  apart v xs x c =
      All-from_get_or (λ y. ¬ y ≡ x) xs 0 (λ k l e.
      let r = traced_round lags p a t.when v xs x k c l e in
      let d : 0 < length (drop k xs) = omega (arith, length-drop k xs) in
      above_raises (round_above lags p a t.when x (drop k xs) d r.way r.raised) (back_least lags p a t.when β s x x (drop k xs) r.way r.raised))

  shorter : (v : ℕ) (xs : List ℕ) (x : ℕ) → Trace v xs x → x < n → length xs < n
  shorter v xs x c b =
      let e = ends_inside lags n allowed xs (raised_ends lags p a t.when xs c.raised) in
      let ne = All-weaker (λ y. ¬ y ≡ x) (λ y. ¬ x ≡ y) (λ y h e. h (sym e)) xs (apart v xs x c) in
      omega (arith, length-le_from_below n (x ∷ xs) (AllPairs-cons (λ x y. ¬ x ≡ y) x xs ne c.distinct) (All-cons (λ y. y < n) x xs b e))

  -- at a node that was never raised the way back ends
  ended : (v : ℕ) (xs : List ℕ) (x : ℕ) → Trace v xs x → x < n → t.when x ≡ 0 → a v ≤ (n - 1) * w
  ended v xs x c b z =
      let l : length xs ≤ n - 1 = omega (arith, shorter v xs x c b) in
      omega (arith, ints, back_most lags p a t.when v x xs c.way c.raised, t.still x z, weights_under lags p a t.when w q xs c.raised, mul-le-mul_right w l)

  bounded : (fuel v : ℕ) (xs : List ℕ) (x : ℕ) → Trace v xs x → x < n → n ≤ length xs + fuel → a v ≤ (n - 1) * w
  bounded zero v xs x c b f = absurd (omega (arith, shorter v xs x c b))
  bounded (suc fuel) v xs x c b f =
      ⊎_elim
      (λ z. ended v xs x c b z)
      (λ z.
      let h : 0 < t.when x = omega arith in
      bounded fuel v (xs ++ x ∷ []) (parent lags p x).from (traced_more lags p a t.when v xs x c (record { named = t.named x h; raised = t.parent x h }) (apart v xs x c))
      (All-get_or (Allowed n) lags (p x) no_lag (t.named x h) allowed).0.0 (omega (arith, length_push xs x)))
      (cases_eq (t.when x) 0)

  pub ceiling : (v : ℕ) → v < n → a v ≤ (n - 1) * w
  ceiling v b = bounded n v [] v (traced_none lags p a t.when v) b (omega arith)

-- to keep the lags of a list is to solve it
pub solution_keeps : (lags : List Lag) (β : ℕ → ℕ) → Keeps lags β → Solution (Listed lags) β
solution_keeps lags β k s t w h = (All-contains (Kept β) lags (record { from = s; to = t; weight = w }) k h).so

pub keeps_solution : (lags : List Lag) (β : ℕ → ℕ) → Solution (Listed lags) β → Keeps lags β
keeps_solution lags β k = All-weaker (Contains lags) (Kept β) (λ g h. record { so = k g.from g.to g.weight h }) lags (All-contains_itself lags)

-- arrivals that keep every lag, and were raised only where a lag was not kept, are the least
pub earliest : (lags : List Lag) (base i n : ℕ) (α : List ℕ) (p : ℕ → ℕ) → Progress lags base i (at α) p → Keeps lags (at α) → All (Allowed n) lags → length α ≡ n → Earliest lags α
earliest lags base i n α p t s allowed l = record {
  least = (solution_keeps lags (at α) s, λ β k. t.under β (keeps_solution lags β k));
  ceiling = λ w q v. ⊎_elim
      (λ h. rw l (ceiling lags base i (at α) p t (at α) s n w allowed q v h))
      (λ h. omega (arith, get_or_past α v 0 (omega arith)))
      (cases_lt v n);
}
