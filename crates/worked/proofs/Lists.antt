-- Lists that contain exactly what holds, put together from lists, and tests that go through them.
use Rattle.std.proofs.Common.{◌≡◌, ℕ, zero, suc, ◌<◌, Bool, true, false, cond, ◌⊎◌, List, [], ◌∷◌, ◌++◌, length, slice_index_or, Some, Decides, sym, refl, ap, ◌∙◌, subst, inl, inr, ⊎_elim, zero-add, arith}
use Rattle.std.specs.List.{slice_get, Contains, list_any, list_all, position_or_len, flat_map, enumerate_from}
use Rattle.std.proofs.lemmas.Bool.{false≢true}
use Rattle.std.proofs.lemmas.List.Elements.{All-contains, Contains-append_left, Contains-append_right, Contains-append_cases}
use Rattle.std.proofs.lemmas.List.Folds.{Any-from_list_any, list_any_at}
use Rattle.std.proofs.lemmas.List.FromFn.{get_or-enumerate_from, length-enumerate_from}
use Rattle.std.proofs.lemmas.List.Sums.{AllPass-from_list_all, fails_before_first, passes_at_first}
use Rattle.std.proofs.lemmas.Option.{slice_get_within, get_or_from_slice_get, slice_get-get_or}

-- the list contains exactly what P holds of
pub record Exactly {A : Type 0} (P : A → Type 0) (xs : List A) : Type 0 where
  pub each : (x : A) → Contains xs x → P x
  pub every : (x : A) → P x → Contains xs x

module _ {A : Type 0} where
  pub Contains-here : (x : A) (xs : List A) → Contains (x ∷ xs) x
  Contains-here x xs = (0, omega arith, refl)

  pub Contains-later : (y : A) (ys : List A) (x : A) → Contains ys x → Contains (y ∷ ys) x
  Contains-later y ys x h = Contains-append_right (y ∷ []) ys x h

  Contains-cases : (y : A) (ys : List A) (x : A) → Contains (y ∷ ys) x → (y ≡ x) ⊎ Contains ys x
  Contains-cases y ys x (zero, l, e) = inl e
  Contains-cases y ys x (suc k, l, e) = inr (k, omega arith, e)

  pub Contains-only : (y x : A) → Contains (y ∷ []) x → y ≡ x
  Contains-only y x (zero, l, e) = e
  Contains-only y x (suc k, l, e) = absurd (omega arith)

  -- one list after another
  pub exactly_append : {P Q R : A → Type 0} {xs ys : List A} → Exactly P xs → Exactly Q ys → ((x : A) → P x → R x) → ((x : A) → Q x → R x) → ((x : A) → R x → P x ⊎ Q x) → Exactly R (xs ++ ys)
  exactly_append {xs = xs} {ys = ys} p q left right either = record {
    each = λ x h. ⊎_elim (λ k. left x (p.each x k)) (λ k. right x (q.each x k)) (Contains-append_cases xs ys x h);
    every = λ x r. ⊎_elim (λ k. Contains-append_left xs ys x (p.every x k)) (λ k. Contains-append_right xs ys x (q.every x k)) (either x r);
  }

  -- some of what the list contains exactly passes a test
  pub decides_some : {P : A → Type 0} {xs : List A} (Q : A → Type 0) (t : A → Bool) → Exactly P xs → ((x : A) → Decides (t x) (Q x)) → Decides (list_any t xs) ((x : A) × P x × Q x)
  decides_some {xs = xs} Q t l d = (
    λ h. let r = Any-from_list_any t xs h in (r.1, l.each r.1 (r.0, r.2, r.3), (d r.1).0 r.4),
    λ r. let (k, l, e) = l.every r.0 r.1 in list_any_at t xs k r.0 l (ap t e ∙ (d r.0).1 r.2),
  )

  -- all of it does
  pub each_passes : {P : A → Type 0} {xs : List A} (t : A → Bool) → Exactly P xs → list_all t xs ≡ true → (x : A) → P x → t x ≡ true
  each_passes {xs = xs} t l h x p = All-contains (λ y. t y ≡ true) xs x (AllPass-from_list_all t xs h) (l.every x p)

  -- the elements with their numbers
  abbrev pub numbered : List A → List (ℕ × A)
  numbered xs = enumerate_from 0 xs

  get_or-numbered : (xs : List A) (k : ℕ) (d : ℕ × A) → k < length xs → slice_index_or (numbered xs) k d ≡ (k, slice_index_or xs k d.1)
  get_or-numbered xs k d l = get_or-enumerate_from 0 xs k d l ∙ ap (λ (n : ℕ). (n, slice_index_or xs k d.1)) (zero-add k)

  -- exactly what stands in the list, with its number
  pub exactly_numbered : (xs : List A) → Exactly (λ (p : ℕ × A). slice_get xs p.0 ≡ Some p.1) (numbered xs)
  exactly_numbered xs = record {
    each = λ p (k, l, e).
        let inside : k < length xs = omega (arith, length-enumerate_from 0 xs) in
        subst (λ (r : ℕ × A). slice_get xs r.0 ≡ Some r.1) (sym (get_or-numbered xs k p inside) ∙ e) (slice_get-get_or xs k p.1 inside);
    every = λ p e.
        let inside = slice_get_within xs p.0 p.1 e in (
          p.0,
          omega (arith, length-enumerate_from 0 xs),
          get_or-numbered xs p.0 p inside ∙ ap (λ (x : A). (p.0, x)) (get_or_from_slice_get xs p.0 p.1 p.1 e),
        );
  }

-- what stands at the first place where a test passes
pub first_there : {A : Type 0} (t : A → Bool) (xs : List A) → list_any t xs ≡ true → (x : A) × (slice_get xs (position_or_len t xs) ≡ Some x) × (t x ≡ true)
first_there t xs h =
    let (k, x, l, e, p) = Any-from_list_any t xs h in
    let early : ¬ k < position_or_len t xs = λ m. false≢true (sym (fails_before_first t xs k x m) ∙ ap t e ∙ p) in
    let inside : position_or_len t xs < length xs = omega arith in
    (slice_index_or xs (position_or_len t xs) x, slice_get-get_or xs (position_or_len t xs) x inside, passes_at_first t xs x inside)

-- what comes of the elements, one after another
Contains-flat_map : {A B : Type 0} (f : A → List B) (xs : List A) (x : A) (y : B) → Contains xs x → Contains (f x) y → Contains (flat_map f xs) y
Contains-flat_map f [] x y (k, l, e) h = absurd (omega arith)
Contains-flat_map f (z ∷ zs) x y h k =
    ⊎_elim
    (λ e. Contains-append_left (f z) (flat_map f zs) y (subst (λ w. Contains (f w) y) (sym e) k))
    (λ l. Contains-append_right (f z) (flat_map f zs) y (Contains-flat_map f zs x y l k))
    (Contains-cases z zs x h)

from_flat_map : {A B : Type 0} (f : A → List B) (xs : List A) (y : B) → Contains (flat_map f xs) y → (x : A) × Contains xs x × Contains (f x) y
from_flat_map f [] y (k, l, e) = absurd (omega arith)
from_flat_map f (x ∷ xs) y h =
    ⊎_elim
    (λ k. (x, Contains-here x xs, k))
    (λ k. let r = from_flat_map f xs y k in (r.0, Contains-later x xs r.0 r.1, r.2))
    (Contains-append_cases (f x) (flat_map f xs) y h)

-- what comes of what a list contains exactly
pub exactly_flat_map : {A B : Type 0} {P : A → Type 0} {xs : List A} (R : B → Type 0) (f : A → List B) → Exactly P xs → ((x : A) (y : B) → P x → Contains (f x) y → R y) → ((y : B) → R y → (x : A) × P x × Contains (f x) y) → Exactly R (flat_map f xs)
exactly_flat_map {xs = xs} R f l to from = record {
  each = λ y h. let r = from_flat_map f xs y h in to r.0 y (l.each r.0 r.1) r.2;
  every = λ y q. let r = from y q in Contains-flat_map f xs r.0 y (l.every r.0 r.1) r.2;
}

-- each of the one with each of the other
abbrev pub pairs : {A B : Type 0} → List A → List B → List (A × B)
pairs {A} {B} xs ys = flat_map {A = A × B} (λ x. flat_map {A = A × B} (λ y. (x, y) ∷ []) ys) xs

pub exactly_pairs : {A B : Type 0} {P : A → Type 0} {Q : B → Type 0} {xs : List A} {ys : List B} → Exactly P xs → Exactly Q ys → Exactly (λ (p : A × B). P p.0 × Q p.1) (pairs xs ys)
exactly_pairs {A} {B} {P} {Q} {xs} {ys} l m =
    exactly_flat_map {B = A × B} (λ p. P p.0 × Q p.1) (λ x. flat_map {A = A × B} (λ y. (x, y) ∷ []) ys) l
    (λ x p here h. let r = from_flat_map {B = A × B} (λ y. (x, y) ∷ []) ys p h in subst (λ (q : A × B). P q.0 × Q q.1) (Contains-only {A = A × B} (x, r.0) p r.2) (here, m.each r.0 r.1))
    (λ p h. (p.0, h.0, Contains-flat_map {B = A × B} (λ y. (p.0, y) ∷ []) ys p.1 p (m.every p.1 h.1) (Contains-here {A = A × B} p [])))

-- the elements that pass a test, each as a function gives it
abbrev pub kept : {A B : Type 0} → (A → Bool) → (A → B) → List A → List B
kept t f xs = flat_map (λ x. cond (t x) (f x ∷ []) []) xs

from_cond : {A : Type 0} (t : Bool) (x y : A) → Contains (cond t (x ∷ []) []) y → (t ≡ true) × (x ≡ y)
from_cond true x y h = (refl, Contains-only x y h)
from_cond false x y (k, l, e) = absurd (omega arith)

pub exactly_kept : {A B : Type 0} {P : A → Type 0} {xs : List A} (Q : A → Type 0) (R : B → Type 0) (t : A → Bool) (f : A → B) → Exactly P xs → ((x : A) → Decides (t x) (Q x)) → ((x : A) → P x → Q x → R (f x)) → ((y : B) → R y → (x : A) × P x × Q x × (f x ≡ y)) → Exactly R (kept t f xs)
exactly_kept {A} {B} Q R t f l d to from =
    exactly_flat_map R (λ x. cond (t x) (f x ∷ []) []) l
    (λ x y p h. let r = from_cond (t x) (f x) y h in subst R r.1 (to x p ((d x).0 r.0)))
    (λ y q. let (x, p, passes, e) = from y q in (x, p, subst (λ v. Contains (cond v (f x ∷ []) []) y) (sym ((d x).1 passes)) (0, omega arith, e)))
