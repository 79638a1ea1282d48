-- What stands at a number of a list, after one more at its end and after one is taken away.
use Rattle.std.proofs.Common.{◌≡◌, ℕ, zero, suc, ◌+◌, ◌<◌, ◌≤◌, ◌⊎◌, List, [], ◌∷◌, ◌++◌, map, length, set, Some, refl, ap, ◌∙◌, arith, rules}
use Rattle.std.specs.List.{remove, slice_get}
use Rattle.std.specs.Option.{option_map}
use Rattle.std.proofs.lemmas.Bool.{cases_eq}
use Rattle.std.proofs.lemmas.List.{length_push, length-set, get_or-set_same, get_or-set_other}
use Rattle.std.proofs.lemmas.Option.{none-some, same_Some, slice_get_within, slice_get-map, slice_get-get_or, get_or_from_slice_get}
use Rattle.std.proofs.iter.runs.Lists.{nth_left, nth_seam}

-- where what stands at i stood, at j, before the one at k was taken away
abbrev pub Moved : ℕ → ℕ → ℕ → Type 0
Moved k i j = ((i < k) × (j ≡ i)) ⊎ ((k ≤ i) × (j ≡ i + 1))

module _ {X : Type 0} where
  -- what stood still stands
  pub slice_get-push : (xs : List X) (y x : X) (i : ℕ) → slice_get xs i ≡ Some x → slice_get (xs ++ y ∷ []) i ≡ Some x
  slice_get-push xs y x i e = search (rules, nth_left, slice_get_within)

  -- what stands now stood before, or is the new one
  pub slice_get-push_cases : (xs : List X) (y x : X) (i : ℕ) → slice_get (xs ++ y ∷ []) i ≡ Some x → (slice_get xs i ≡ Some x) ⊎ ((i ≡ length xs) × (y ≡ x))
  slice_get-push_cases xs y x i e = grind (arith, slice_get_within (xs ++ y ∷ []) i x e, length_push xs y, nth_left xs (y ∷ []) i, nth_seam xs y)

  pub slice_get-remove : (xs : List X) (k i : ℕ) (x : X) → slice_get (remove xs k) i ≡ Some x → k < length xs → (j : ℕ) × (slice_get xs j ≡ Some x) × Moved k i j
  slice_get-remove [] k i x e l = absurd (omega arith)
  slice_get-remove (y ∷ xs) zero i x e l = (suc i, e, grind arith)
  slice_get-remove (y ∷ xs) (suc k) zero x e l = (zero, e, grind arith)
  slice_get-remove (y ∷ xs) (suc k) (suc i) x e l = let from = slice_get-remove xs k i x e (omega arith) in (suc from.0, from.1, grind (arith, from.2))

  -- one record changed
  pub slice_get-set_cases : (xs : List X) (k i : ℕ) (y x : X) → slice_get (set xs k y) i ≡ Some x → ((¬ i ≡ k) × (slice_get xs i ≡ Some x)) ⊎ ((i ≡ k) × (y ≡ x))
  slice_get-set_cases xs k i y x e = grind (arith, cases_eq i k, slice_get_within (set xs k y) i x e, length-set xs k y, get_or_from_slice_get (set xs k y) i x y e, get_or-set_same xs k y y, get_or-set_other, slice_get-get_or xs i y)

-- a record of a mapped list
pub slice_get-map_some : {X Y : Type 0} (f : X → Y) (xs : List X) (i : ℕ) (x : X) → slice_get xs i ≡ Some x → slice_get (map f xs) i ≡ Some (f x)
slice_get-map_some f xs i x e = slice_get-map f xs i ∙ ap (option_map f) e

-- and where it came from
pub slice_get-map_from : {X Y : Type 0} (f : X → Y) (xs : List X) (i : ℕ) (y : Y) → slice_get (map f xs) i ≡ Some y → (x : X) × (slice_get xs i ≡ Some x) × (f x ≡ y)
slice_get-map_from f [] i y e = absurd (none-some y e)
slice_get-map_from f (x ∷ xs) zero y e = (x, refl, same_Some (f x) y e)
slice_get-map_from f (x ∷ xs) (suc i) y e = slice_get-map_from f xs i y e

-- a mapped list with one less
pub map-remove : {X Y : Type 0} (f : X → Y) (xs : List X) (k : ℕ) → map f (remove xs k) ≡ remove (map f xs) k
map-remove f [] zero = refl
map-remove f [] (suc k) = refl
map-remove f (x ∷ xs) zero = refl
map-remove f (x ∷ xs) (suc k) = ap (λ ys. f x ∷ ys) (map-remove f xs k)
