-- How many nodes are where lags end, by marks.
use Rattle.std.proofs.Common.{◌≡◌, ℕ, IsTrue, cond, ◌+◌, ◌<◌, ◌≤◌, Bool, true, false, List, [], ◌∷◌, length, get_or, take, set, replicate, sym, refl, ap, ◌∙◌, ⊎_elim, arith}
use Rattle.std.specs.List.{All}
use Rattle.std.proofs.lemmas.List.{get_or-set_same, get_or-set_other, get_or_past, get_or-replicate, length-replicate, length-set, take_more, take_all}
use Rattle.std.proofs.lemmas.List.Sums.{sum_by-set, count_by-le-length}
use Rattle.std.proofs.lemmas.List.Elements.{All-weaker, All-contains, Contains-append_left, Contains-push, Contains-push_cases}
use Rattle.std.proofs.lemmas.Bool.{both_ways, cases_eq, cases_lt}
use Rattle.lags.specs.declared.Lag.{Lag}
use Rattle.lags.specs.Solved.{Allowed}
use Rattle.lags.specs.Progress.{lag_at, no_lag}
use Rattle.lags.specs.Traced.{Distinct, End, EndCount, Marking}
use Rattle.lags.proofs.Distincts.{length-le_from_marks, length-le_from_below}

-- distinct nodes where lags end are at most as many as all such nodes, and as the nodes
pub ends_most : (lags : List Lag) (m : ℕ) → EndCount lags m → (xs : List ℕ) → All (End lags) xs → Distinct xs → length xs ≤ m
ends_most lags m c xs h d = omega (arith, c.many, length-le_from_marks xs c.marks d (All-weaker (End lags) (λ y. IsTrue (get_or c.marks y false)) (λ y e. (c.marked y).1 e) xs h))

pub ends_inside : (lags : List Lag) (n : ℕ) → All (Allowed n) lags → (xs : List ℕ) → All (End lags) xs → All (λ y. y < n) xs
ends_inside lags n a xs h = All-weaker (End lags) (λ y. y < n) (λ x e. rw (← e.2) (All-contains (Allowed n) lags e.0 a e.1).0.1) xs h

pub ends_below : (lags : List Lag) (n : ℕ) → All (Allowed n) lags → (xs : List ℕ) → All (End lags) xs → Distinct xs → length xs ≤ n
ends_below lags n a xs h d = length-le_from_below n xs d (ends_inside lags n a xs h)

-- the ends of no lags, and of one more
pub no_mark : (n v : ℕ) → get_or (replicate n false) v false ≡ false
no_mark n v = ⊎_elim (λ h. get_or-replicate n v false false h) (λ h. get_or_past (replicate n false) v false (omega (arith, length-replicate n false))) (cases_lt v n)

end_none : (v : ℕ) → ¬ End [] v
end_none v e = omega (arith, e.1.1)

end_before : (lags : List Lag) (i v : ℕ) → i < length lags → End (take i lags) v → End (take (i + 1) lags) v
end_before lags i v l e = rw (take_more lags i no_lag l) (e.0, Contains-append_left (take i lags) (lag_at lags i ∷ []) e.0 e.1, e.2)

end_here : (lags : List Lag) (i : ℕ) → i < length lags → End (take (i + 1) lags) (lag_at lags i).to
end_here lags i l = rw (take_more lags i no_lag l) (lag_at lags i, Contains-push (take i lags) (lag_at lags i), refl)

end_cases : (lags : List Lag) (i v : ℕ) → i < length lags → (¬ v ≡ (lag_at lags i).to) → End (take (i + 1) lags) v → End (take i lags) v
end_cases lags i v l ne e =
    ⊎_elim (λ h. (e.0, h, e.2)) (λ q. absurd (ne (sym e.2 ∙ sym (ap (λ (g : Lag). g.to) q)))) (Contains-push_cases (take i lags) (lag_at lags i) e.0 (rw (take_more lags i no_lag l) at e.1))

pub marking_none : (lags : List Lag) → Marking lags 0 (replicate 1024 false) 0
marking_none lags = record {
  marked = λ v. (λ e. absurd (both_ways (get_or (replicate 1024 false) v false) (no_mark 1024 v) e), λ e. absurd (end_none v e));
  many = refl;
  size = length-replicate 1024 false;
}

module _ (lags : List Lag) (i : ℕ) (marks : List Bool) (n : ℕ) (m : Marking lags i marks n) (l : i < length lags) where
  -- where the next lag ends is marked already
  pub marking_again : get_or marks (lag_at lags i).to false ≡ true → Marking lags (i + 1) marks n
  marking_again e = record {
    marked = λ v. (
      λ h. end_before lags i v l ((m.marked v).0 h),
      λ h. ⊎_elim (λ q. rw q e) (λ ne. (m.marked v).1 (end_cases lags i v l ne h)) (cases_eq v (lag_at lags i).to),
    );
    many = m.many;
    size = m.size;
  }

  -- or it is marked now
  pub marking_new : (lag_at lags i).to < 1024 → get_or marks (lag_at lags i).to false ≡ false → Marking lags (i + 1) (set marks (lag_at lags i).to true) (n + 1)
  marking_new b e = record {
    marked = λ v. (
      λ h. ⊎_elim (λ q. rw q (end_here lags i l)) (λ ne. end_before lags i v l ((m.marked v).0 (rw (other v ne) at h))) (cases_eq v (lag_at lags i).to),
      λ h. ⊎_elim (λ q. rw q here) (λ ne. rw (other v ne) ((m.marked v).1 (end_cases lags i v l ne h))) (cases_eq v (lag_at lags i).to),
    );
    many =
        let f = sum_by-set (λ b. cond b 1 0) marks (lag_at lags i).to true false inside in
        let z : ◌≡◌ {A = ℕ} (cond (get_or marks (lag_at lags i).to false) 1 0) 0 = ap (λ b. cond {A = ℕ} b 1 0) e in
        omega (arith, m.many, f, z);
    size = length-set marks (lag_at lags i).to true ∙ m.size;
  }
    where
      inside : (lag_at lags i).to < length marks
      inside = omega (arith, m.size)

      here : get_or (set marks (lag_at lags i).to true) (lag_at lags i).to false ≡ true
      here = get_or-set_same marks (lag_at lags i).to true false inside

      other : (v : ℕ) → (¬ v ≡ (lag_at lags i).to) → get_or (set marks (lag_at lags i).to true) v false ≡ get_or marks v false
      other v ne = get_or-set_other marks (lag_at lags i).to v true false ne

pub marking_few : (lags : List Lag) (i : ℕ) (marks : List Bool) (n : ℕ) → Marking lags i marks n → n ≤ 1024
marking_few lags i marks n m = omega (arith, m.many, m.size, count_by-le-length (λ b. b) marks)

pub marking_all : (lags : List Lag) (i : ℕ) (marks : List Bool) (n : ℕ) → Marking lags i marks n → length lags ≤ i → EndCount lags n
marking_all lags i marks n m l = record { marks = marks; marked = rw (take_all i lags l) at m.marked; many = m.many }
