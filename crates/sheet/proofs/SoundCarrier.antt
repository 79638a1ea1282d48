-- A sound book stays sound when a carrier is entered.
use Rattle.std.proofs.Common.{◌≡◌, ℕ, ◌+◌, ◌⊎◌, length, refl, inl, inr, arith, rules}
use mathlib.Core.Logic.{∥∥₁_map}
use Rattle.std.proofs.lemmas.Grind.{not_there}
use Rattle.std.proofs.lemmas.List.{length_push}
use Rattle.std.proofs.lemmas.Option.{slice_get_within}
use Rattle.sheet.specs.Book.{Book, Goes, OnRoute, Starts}
use Rattle.sheet.specs.Calls.{Accepts, checks, with_carrier}
use Rattle.sheet.specs.Calls.Call.{enter_carrier}
use Rattle.sheet.specs.Sound.{Sound, Holds}
use Rattle.sheet.proofs.Grown.{OneMoreStop, visits_kept, visits_new, visits_cases, starts_kept}
use Rattle.sheet.proofs.SliceGet.{slice_get-push_cases}

module _ (b : Book) (sound : Sound b) (start goal : ℕ) (free : Accepts (checks b (enter_carrier start goal))) where
  abbrev after : Book
  after = with_carrier b start goal

  longer_carriers : length after.carriers ≡ length b.carriers + 1
  longer_carriers = length_push b.carriers _

  longer_stops : OneMoreStop b after (length b.stops) (record { carrier = length b.carriers; place = start })
  longer_stops = record { number = refl; stops = refl }

  goes : (c u v : ℕ) → Goes after c u v → Goes b c u v ⊎ ((c ≡ length b.carriers) × (start ≡ u) × (goal ≡ v))
  goes c u v g = search (rules, slice_get-push_cases)

  new_starts : Starts after (length b.carriers) (length b.stops) start
  new_starts = search (rules, visits_new longer_stops, visits_cases longer_stops, sound.known)

  begins : (c u v : ℕ) → Goes b c u v ⊎ ((c ≡ length b.carriers) × (start ≡ u) × (goal ≡ v)) → Holds ((s : ℕ) × Starts after c s u)
  begins c u v (inl g) = ∥∥₁_map {B = (s : ℕ) × Starts after c s u} (sound.begins c u (v, g)) (λ (p : (s : ℕ) × Starts b c s u). (p.0, starts_kept longer_stops c p.0 u p.1))
  begins c u v (inr n) = ∣ (length b.stops, rw (n.0, ← n.1) new_starts) ∣₁

  -- no carrier has the new one's start or goal
  new_start : (c v : ℕ) → ¬ Goes b c start v
  new_start c v g = free.1.1.0 (inl (c, (v, g)))

  new_goal : (c u : ℕ) → ¬ Goes b c u goal
  new_goal c u g = free.1.1.0 (inr (c, (u, g)))

  pub sound_carrier : Sound after
  sound_carrier = record {
    few_carriers = grind (arith, longer_carriers);
    few_stops = grind (arith, length_push b.stops);
    few_precedences = sound.few_precedences;
    low_start = λ c u g. grind (arith, goes c u g.0 g.1, sound.low_start c u);
    low_goal = λ c v g. grind (arith, goes c g.0 v g.1, sound.low_goal c v);
    low_stop = λ s c u v. grind (arith, visits_cases longer_stops);
    distinct_starts = λ c e u g h. grind (arith, goes c u g.0 g.1, goes e u h.0 h.1, new_start, sound.distinct_starts c e u);
    distinct_goals = λ c e v g h. grind (arith, goes c g.0 v g.1, goes e h.0 v h.1, new_goal, sound.distinct_goals c e v);
    known = λ s c u v. grind (arith, visits_cases longer_stops, longer_carriers);
    begins = λ c u g. begins c u g.0 (goes c u g.0 g.1);
    once = λ c s t u v w. grind (arith, visits_cases longer_stops);
    ends = λ c s t u v g p q. grind (arith, goes, visits_cases longer_stops, slice_get_within b.carriers c);
    two = sound.two;
    shared = λ k first second u p. ∥∥₁_map {B = OnRoute after first u × OnRoute after second u} (sound.shared k first second u p) (λ (r : OnRoute b first u × OnRoute b second u). search (rules, visits_kept longer_stops));
    not_goal = λ k first second u p g. grind (arith, goes, not_there (sound.shared k first second u p));
    not_start = λ k first second u p g. grind (arith, goes, not_there (sound.shared k first second u p));
    decided_once = sound.decided_once;
  }
