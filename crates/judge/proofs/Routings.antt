-- From what each part of judging found to what is found of the routes.
use Rattle.std.proofs.Common.{◌≡◌, ℕ, ◌≤◌, Bool, List, length, MatchResult, Some, None, Ok, Err, Option, Result, arith, rules}
use Rattle.std.proofs.lemmas.Grind.{common_steps}
use Rattle.sheet.specs.declared.records.Precedence.{Precedence}
use Rattle.sheet.specs.declared.records.Stop.{Stop}
use Rattle.judge.specs.declared.refusal.JudgeRefusal.{JudgeRefusal}
use Rattle.judge.specs.declared.refusal.JudgeRefusal.TheVariants.{PageTooShort, NotAtGoal, NoLane, Undecided, HeadOn, Ring}
use Rattle.judge.specs.declared.legs.Leg.{Leg}
use Rattle.judge.specs.Meetings.{Leads, LowestOpposed}
use Rattle.judge.specs.Routing.{AllDecided, PrecedencesClear, PrecedencesRefused, Routed}
use Rattle.judge.specs.Settling.{Pages, Within}

module _ (lanes : ℕ → ℕ → Option ℕ) (gap : ℕ → ℕ → ℕ → ℕ) (most : ℕ) (stops : List Stop) (ps : List Precedence) (p : Pages) where
  -- what was answered is on the page
  pub routed_within : length stops ≤ length p.timetable → length p.ring_after ≡ length p.ring → (r : Result ℕ JudgeRefusal) → Routed lanes gap most stops ps p r → Within (length p.timetable) (length p.ring) r
  routed_within fits kept (Ok n) h = search rules
  routed_within fits kept (Err PageTooShort) h = tt
  routed_within fits kept (Err (NotAtGoal carrier)) h = tt
  routed_within fits kept (Err (NoLane stop)) h = tt
  routed_within fits kept (Err (Undecided s t)) h = tt
  routed_within fits kept (Err (HeadOn s t)) h = tt
  routed_within fits kept (Err (Ring k)) h = grind (arith, common_steps, h.settles.written, h.settles.long)

-- marked precedences that decide every meeting, and what the search for stops that are set head on found
pub precedences_checked : (stops : List Stop) (legs : List Leg) (ps : List Precedence) (leads : List Bool) → Leads ps (length ps) leads → AllDecided stops legs ps leads → (r : Result (Unit {0}) JudgeRefusal) → MatchResult r (λ _. LowestOpposed stops legs leads ps (length ps) None) (λ e. (s : ℕ) × (t : ℕ) × (e ≡ HeadOn s t) × LowestOpposed stops legs leads ps (length ps) (Some (s, t))) → MatchResult r (λ _. PrecedencesClear stops legs ps) (λ e. PrecedencesRefused stops legs ps e)
precedences_checked stops legs ps leads marks decided (Ok _) none = search rules
precedences_checked stops legs ps leads marks decided (Err e) (s, t, is, lowest) = search rules
