-- A rising list in two parts: only one of them can have the lane that is looked for.
use Rattle.std.proofs.Common.{◌≡◌, ℕ, ◌+◌, ◌<◌, ◌≤◌, ◌⊎◌, List, [], ◌∷◌, ◌++◌, length, take, drop, slice_index_or, None, refl, sym, ap, ◌∙◌, arith}
use Rattle.std.proofs.lemmas.Bool.Decides.{nat_tests}
use Rattle.std.proofs.lemmas.List.{get_or-take, get_or-drop, take-append-drop, length-take-le, length-drop}
use Rattle.lane_yard.specs.declared.lane.Lane.{Lane}
use Rattle.lane_yard.proofs.Times.{time_none}
use Rattle.lane_yard.specs.Records.{no_lane, Rising, time_of}
use Rattle.lane_yard.proofs.Rises.{far}

-- lanes after which nothing is found
time_front : (xs ys : List Lane) (f t : ℕ) → time_of ys f t ≡ None → time_of (xs ++ ys) f t ≡ time_of xs f t
time_front [] ys f t none = none
time_front (l ∷ ls) ys f t none = grind (arith, nat_tests, time_front ls ys f t none)

-- lanes before which nothing is found
time_back : (xs ys : List Lane) (f t : ℕ) → time_of xs f t ≡ None → time_of (xs ++ ys) f t ≡ time_of ys f t
time_back [] ys f t none = refl
time_back (l ∷ ls) ys f t none = grind (arith, nat_tests, time_back ls ys f t)

module _ (xs : List Lane) (r : Rising xs) (k : ℕ) (within : k < length xs) where
  abbrev at : ℕ → Lane
  at i = slice_index_or xs i no_lane

  pub rising_front : Rising (take k xs)
  rising_front i h = grind (arith, length-take-le k xs, get_or-take k xs i no_lane, get_or-take k xs (i + 1) no_lane, r i)

  pub rising_back : Rising (drop k xs)
  rising_back i h = grind (arith, length-drop k xs, get_or-drop k xs i no_lane, get_or-drop k xs (i + 1) no_lane, r (k + i))

  module _ (f t : ℕ) where
    -- where the lane at k comes not after the places, those before it cannot join them
    pub at_back : ((at k).from < f) ⊎ (((at k).from ≡ f) × ((at k).to ≤ t)) → time_of (drop k xs) f t ≡ time_of xs f t
    at_back h =
        let front = time_none (take k xs) f t (λ i lo hi p q. grind (arith, length-take-le k xs, get_or-take k xs i no_lane, far xs r i k)) in
        sym (time_back (take k xs) (drop k xs) f t front) ∙ ap (λ (l : List Lane). time_of l f t) (take-append-drop k xs)

    -- where it comes after them, it and those after it cannot
    pub at_front : (f < (at k).from) ⊎ (((at k).from ≡ f) × (t < (at k).to)) → time_of (take k xs) f t ≡ time_of xs f t
    at_front h =
        let back = time_none (drop k xs) f t (λ i lo hi p q. grind (arith, length-drop k xs, get_or-drop k xs i no_lane, far xs r k (k + i))) in
        sym (time_front (take k xs) (drop k xs) f t back) ∙ ap (λ (l : List Lane). time_of l f t) (take-append-drop k xs)
