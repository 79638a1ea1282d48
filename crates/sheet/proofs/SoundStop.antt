-- A sound book stays sound when a stop is entered.
use Rattle.std.proofs.Common.{ℕ, length, refl, arith, rules}
use mathlib.Core.Logic.{∥∥₁_map}
use Rattle.std.proofs.lemmas.List.{length_push}
use Rattle.std.proofs.lemmas.Option.{slice_get_within}
use Rattle.sheet.specs.Book.{Book, Visits, GoalOf, OnRoute, Starts}
use Rattle.sheet.specs.Calls.{Accepts, checks, with_stop}
use Rattle.sheet.specs.Calls.Call.{enter_stop}
use Rattle.sheet.specs.Sound.{Sound}
use Rattle.sheet.proofs.Grown.{OneMoreStop, visits_kept, visits_cases, starts_kept}

module _ (b : Book) (sound : Sound b) (carrier place : ℕ) (free : Accepts (checks b (enter_stop carrier place))) where
  abbrev after : Book
  after = with_stop b carrier place

  longer : OneMoreStop b after (length b.stops) (record { carrier = carrier; place = place })
  longer = record { number = refl; stops = refl }

  -- the carrier's route has not reached its goal
  unfinished : (s u : ℕ) → GoalOf b carrier u → ¬ Visits b s carrier u
  unfinished s u g v = free.1.1.0 (u, g, (s, v))

  pub sound_stop : Sound after
  sound_stop = record {
    few_carriers = sound.few_carriers;
    few_stops = grind (arith, length_push b.stops);
    few_precedences = sound.few_precedences;
    low_start = sound.low_start;
    low_goal = sound.low_goal;
    low_stop = λ s c u v. grind (arith, visits_cases longer);
    distinct_starts = sound.distinct_starts;
    distinct_goals = sound.distinct_goals;
    known = λ s c u v. grind (arith, visits_cases longer);
    begins = λ c u g. ∥∥₁_map {B = (s : ℕ) × Starts after c s u} (sound.begins c u g) (λ (p : (s : ℕ) × Starts b c s u). (p.0, starts_kept longer c p.0 u p.1));
    once = λ c s t u v w. grind (arith, visits_cases longer);
    ends = λ c s t u v g p q. grind (arith, visits_cases longer, unfinished, slice_get_within b.stops, sound.ends c s t u v g);
    two = sound.two;
    shared = λ k first second u p. ∥∥₁_map {B = OnRoute after first u × OnRoute after second u} (sound.shared k first second u p) (λ (r : OnRoute b first u × OnRoute b second u). search (rules, visits_kept longer));
    not_goal = sound.not_goal;
    not_start = sound.not_start;
    decided_once = sound.decided_once;
  }
