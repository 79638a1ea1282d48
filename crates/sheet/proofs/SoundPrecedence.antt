-- A sound book stays sound when a precedence is entered or struck.
use Rattle.std.proofs.Common.{◌≡◌, ℕ, ◌<◌, ◌⊎◌, length, inl, inr, arith, rules}
use mathlib.Core.Logic.{∥∥₁_map}
use Rattle.std.proofs.lemmas.List.Edits.{length-remove}
use Rattle.std.proofs.lemmas.List.{length_push}
use Rattle.sheet.specs.Book.{Book, Stands, OnRoute, Starts}
use Rattle.sheet.specs.Calls.{Accepts, checks, with_precedence, without_precedence}
use Rattle.sheet.specs.Calls.Call.{enter_precedence}
use Rattle.sheet.specs.Sound.{Sound, Holds}
use Rattle.sheet.proofs.SliceGet.{slice_get-push_cases, slice_get-remove, Moved}
use Rattle.sheet.proofs.Words.{on_route_or_not}

-- entered
module _ (b : Book) (sound : Sound b) (first second place : ℕ) (free : Accepts (checks b (enter_precedence first second place))) where
  abbrev more : Book
  more = with_precedence b first second place

  on_first : OnRoute b first place
  on_first = grind (arith, on_route_or_not b first place)

  on_second : OnRoute b second place
  on_second = grind (arith, on_route_or_not b second place)

  abbrev New : ℕ → ℕ → ℕ → ℕ → Type 0
  New k f g u = (k ≡ length b.precedences) × (first ≡ f) × (second ≡ g) × (place ≡ u)

  stands : (k f g u : ℕ) → Stands more k f g u → Stands b k f g u ⊎ New k f g u
  stands k f g u p = search (rules, slice_get-push_cases)

  shared : (k f g u : ℕ) → Stands b k f g u ⊎ New k f g u → Holds (OnRoute b f u × OnRoute b g u)
  shared k f g u (inl o) = sound.shared k f g u o
  shared k f g u (inr n) = ∣ (rw (← n.1, ← n.3) on_first, rw (← n.2, ← n.3) on_second) ∣₁

  pub sound_precedence : Sound more
  sound_precedence = record {
    few_carriers = sound.few_carriers;
    few_stops = sound.few_stops;
    few_precedences = grind (arith, length_push);
    low_start = sound.low_start;
    low_goal = sound.low_goal;
    low_stop = sound.low_stop;
    distinct_starts = sound.distinct_starts;
    distinct_goals = sound.distinct_goals;
    known = sound.known;
    begins = λ c u g. ∥∥₁_map {B = (s : ℕ) × Starts more c s u} (sound.begins c u g) (λ (p : (s : ℕ) × Starts b c s u). (p.0, record { here = p.1.here; first = p.1.first }));
    once = sound.once;
    ends = sound.ends;
    two = λ k f g u p. grind (arith, stands);
    shared = λ k f g u p. shared k f g u (stands k f g u p);
    not_goal = λ k f g u p at. grind (arith, stands);
    not_start = λ k f g u p at. grind (arith, stands);
    decided_once = λ j k c e u p q. grind (arith, stands);
  }

-- struck
module _ (b : Book) (sound : Sound b) (number : ℕ) (within : number < length b.precedences) where
  abbrev less : Book
  less = without_precedence b number

  stood : (i f g u : ℕ) → Stands less i f g u → (j : ℕ) × Stands b j f g u × Moved number i j
  stood i f g u p = slice_get-remove b.precedences number i _ p within

  pub sound_strike : Sound less
  sound_strike = record {
    few_carriers = sound.few_carriers;
    few_stops = sound.few_stops;
    few_precedences = grind (arith, length-remove);
    low_start = sound.low_start;
    low_goal = sound.low_goal;
    low_stop = sound.low_stop;
    distinct_starts = sound.distinct_starts;
    distinct_goals = sound.distinct_goals;
    known = sound.known;
    begins = λ c u g. ∥∥₁_map {B = (s : ℕ) × Starts less c s u} (sound.begins c u g) (λ (p : (s : ℕ) × Starts b c s u). (p.0, record { here = p.1.here; first = p.1.first }));
    once = sound.once;
    ends = sound.ends;
    two = λ i f g u p e. grind (arith, stood);
    shared = λ i f g u p. let o = stood i f g u p in sound.shared o.0 f g u o.1;
    not_goal = λ i f g u p at. grind (arith, stood);
    not_start = λ i f g u p at. grind (arith, stood);
    decided_once = λ i k c e u p q. grind (arith, stood);
  }
