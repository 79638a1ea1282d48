-- What `time_of` answers.
use Rattle.std.specs.Prelude.{◌≡◌, ℕ, zero, suc, ◌<◌, true, false, ◌&&◌, ◌⊎◌, List, [], ◌∷◌, length, Some, None, ◌==◌, ◌≢◌, slice_index_or, refl}
use Rattle.std.proofs.Common.{arith}
use Rattle.std.proofs.lemmas.Bool.Decides.{nat_tests}
use Rattle.lane_yard.specs.declared.lane.Lane.{Lane}
use Rattle.lane_yard.specs.Records.{no_lane, time_of, Absent}

hit : (a b f t : ℕ) → a ≡ f → b ≡ t → (a == f && b == t) ≡ true
hit a b f t p q = grind (arith, nat_tests)

miss : (a b f t : ℕ) → (a ≡ f → b ≢ t) → (a == f && b == t) ≡ false
miss a b f t n = grind (arith, nat_tests)

pub way : (a b f t : ℕ) → (((a == f && b == t) ≡ true) × (a ≡ f) × (b ≡ t)) ⊎ ((a == f && b == t) ≡ false)
way a b f t = grind (arith, nat_tests)

-- at the first lane that joins the places, its time
pub time_at : (xs : List Lane) (f t i : ℕ) → i < length xs → (slice_index_or xs i no_lane).from ≡ f → (slice_index_or xs i no_lane).to ≡ t → Absent xs f t 0 i → time_of xs f t ≡ Some (slice_index_or xs i no_lane).time
time_at [] f t i lt p q free = absurd (omega arith)
time_at (l ∷ ls) f t zero lt p q free = grind (arith, nat_tests)
time_at (l ∷ ls) f t (suc i) lt p q free =
    let later = time_at ls f t i (omega arith) p q (λ k z h. free (suc k) (omega arith) (omega arith)) in
    grind (arith, nat_tests, free 0)

pub time_none : (xs : List Lane) (f t : ℕ) → Absent xs f t 0 (length xs) → time_of xs f t ≡ None
time_none [] f t free = refl
time_none (l ∷ ls) f t free =
    let later = time_none ls f t (λ k z h. free (suc k) (omega arith) (omega arith)) in
    grind (arith, nat_tests, free 0)
