-- Lists of distinct numbers, and how long they are at most.
use Rattle.std.proofs.Common.{◌≡◌, ℕ, suc, ◌+◌, ◌<◌, ◌≤◌, IsTrue, Bool, true, false, cond, eqb, List, [], ◌∷◌, ◌++◌, length, get_or, set, drop, count_by, Some, sym, ap, ◌∙◌, ⊎_elim, arith}
use Rattle.std.specs.Cmp.{nat_eq_equiv}
use Rattle.std.specs.List.{slice_get, All, IsDistinct}
use Rattle.std.specs.List.Sorted.{IsPermutation}
use Rattle.std.proofs.lemmas.List.{get_or-drop, get_or-set_other, get_or_past, length-drop}
use Rattle.std.proofs.lemmas.List.Quantifiers.{all_pairs_push}
use Rattle.std.proofs.lemmas.Option.{slice_get_within, get_or_from_slice_get}
use Rattle.std.proofs.lemmas.List.Elements.{All-head, All-tail, All-contains}
use Rattle.std.proofs.lemmas.List.Sums.{sum_by-set}
use Rattle.std.proofs.lemmas.Map.Keys.{IsDistinct-IsPermutation}
use Rattle.std.proofs.lemmas.Map.Made.{AllPairs-from_IsDistinct, IsDistinct-from_AllPairs}
use Rattle.std.proofs.lemmas.Map.Steps.{length-le_from_distinct_below}
use Rattle.std.proofs.lemmas.Map.Views.{Contains-from_any}
use Rattle.std.proofs.lemmas.Bool.Decides.{Decides-eqb}
use Rattle.std.proofs.lemmas.Bool.{cases_lt, both_ways, eqb-true}
use Rattle.lags.specs.Traced.{Distinct}

pub Distinct-head : (x : ℕ) (xs : List ℕ) → Distinct (x ∷ xs) → All (λ y. ¬ x ≡ y) xs
Distinct-head x xs h k d l = h 0 (suc k) d (omega arith) (omega arith)

pub Distinct-tail : (x : ℕ) (xs : List ℕ) → Distinct (x ∷ xs) → Distinct xs
Distinct-tail x xs h i j d l m = h (suc i) (suc j) d (omega arith) (omega arith)

pub Distinct-push : (xs : List ℕ) (x : ℕ) → Distinct xs → All (λ y. ¬ y ≡ x) xs → Distinct (xs ++ x ∷ [])
Distinct-push xs x h n = all_pairs_push (λ x y. ¬ x ≡ y) xs x h n

pub Distinct-drop : (k : ℕ) (xs : List ℕ) → Distinct xs → Distinct (drop k xs)
Distinct-drop k xs h i j d l m = rw (get_or-drop k xs i d, get_or-drop k xs j d) (h (k + i) (k + j) d (omega arith) (omega (arith, length-drop k xs)))

pub IsDistinct-from_Distinct : (xs : List ℕ) → Distinct xs → IsDistinct eqb xs
IsDistinct-from_Distinct xs h = IsDistinct-from_AllPairs Decides-eqb xs h

pub Distinct-permutation : (xs ys : List ℕ) → IsPermutation xs ys → Distinct xs → Distinct ys
Distinct-permutation xs ys p h = AllPairs-from_IsDistinct Decides-eqb ys (IsDistinct-IsPermutation eqb nat_eq_equiv.symm xs ys p (IsDistinct-from_Distinct xs h))

-- the same by places
pub Distinct-slice_get : (xs : List ℕ) → Distinct xs → (i j x : ℕ) → slice_get xs i ≡ Some x → slice_get xs j ≡ Some x → i ≡ j
Distinct-slice_get xs h i j x e f =
    let same = get_or_from_slice_get xs i x 0 e ∙ sym (get_or_from_slice_get xs j x 0 f) in
    let apart : ¬ (i < j) = λ l. h i j 0 l (slice_get_within xs j x f) same in
    let apart' : ¬ (j < i) = λ l. h j i 0 l (slice_get_within xs i x e) (sym same) in
    ⊎_elim (λ l. absurd (apart l)) (λ l. ⊎_elim (λ k. absurd (apart' k)) (λ k. omega arith) (cases_lt j i)) (cases_lt i j)

-- what is marked lies in the list
marked_in : (marks : List Bool) (x : ℕ) → get_or marks x false ≡ true → x < length marks
marked_in marks x e = ⊎_elim (λ h. h) (λ h. absurd (both_ways (get_or marks x false) (get_or_past marks x false h) e)) (cases_lt x (length marks))

-- distinct marked numbers are at most as many as the marks
pub length-le_from_marks : (xs : List ℕ) (marks : List Bool) → Distinct xs → All (λ x. IsTrue (get_or marks x false)) xs → length xs ≤ count_by (λ b. b) marks
length-le_from_marks [] marks d h = omega arith
length-le_from_marks (x ∷ xs) marks d h =
    let here : get_or marks x false ≡ true = All-head (λ y. IsTrue (get_or marks y false)) x xs h in
    let rest = length-le_from_marks xs (set marks x false) (Distinct-tail x xs d) still in
    let falls = sum_by-set (λ b. cond b 1 0) marks x false false (marked_in marks x here) in
    let one : ◌≡◌ {A = ℕ} (cond (get_or marks x false) 1 0) 1 = ap (λ b. cond {A = ℕ} b 1 0) here in
    omega (arith, rest, falls, one)
  where
    still : All (λ y. IsTrue (get_or (set marks x false) y false)) xs
    still k d' l =
        rw (get_or-set_other marks x (get_or xs k d') false false (λ e. Distinct-head x xs d k d' l (sym e)))
        (All-tail (λ y. IsTrue (get_or marks y false)) x xs h k d' l)

-- distinct numbers below n are at most n
pub length-le_from_below : (n : ℕ) (xs : List ℕ) → Distinct xs → All (λ x. x < n) xs → length xs ≤ n
length-le_from_below n xs d h =
    length-le_from_distinct_below xs n (IsDistinct-from_Distinct xs d) (λ q e. All-contains (λ x. x < n) xs q h (Contains-from_any eqb-true q xs e))
