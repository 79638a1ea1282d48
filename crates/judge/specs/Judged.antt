-- What a judging answers, in the words of the subject.
use Rattle.std.specs.Prelude.{◌≡◌, ℕ, ◌-◌, ◌*◌, ◌<◌, ◌≤◌, max, ◌≢◌, ◌↔◌, List, length, IsOk, None, Ok, Err, Result, slice_index}
use Rattle.lags.specs.Ways.{Ring as RingOf}
use Rattle.sheet.specs.Book.{Book, GoalOf, OnRoute, Visits, Decided, Next}
use Rattle.plan.specs.Lags.{Lag}
use Rattle.plan.specs.Plans.{Lanes, Gaps, Earliest, Possible, Complete, Opposed}
use Rattle.judge.specs.declared.refusal.JudgeRefusal.{JudgeRefusal}
use Rattle.judge.specs.declared.refusal.JudgeRefusal.TheVariants.{PageTooShort, NotAtGoal, NoLane, Undecided, HeadOn, Ring}
use Rattle.judge.specs.Lowest.{Lowest, LowestPair}
use Rattle.judge.specs.Settling.{Pages, Front}
use Rattle.judge.specs.Routing.{Untouched}

-- what a judging is given, what it leaves on the pages and what it answers
pub record Judging : Type 0 where
  -- the yard's meaning, the rule's, and the largest gap that the rule names
  pub lanes : Lanes
  pub gap : Gaps
  pub largest : ℕ
  pub pages : Pages
  pub answer : Result ℕ JudgeRefusal

abbrev pub judging_of : Lanes → Gaps → ℕ → List ℕ → List ℕ → List ℕ → List ℕ → Result ℕ JudgeRefusal → Judging
judging_of lanes gap largest timetable ring timetable' ring' r = record {
  lanes = lanes;
  gap = gap;
  largest = largest;
  pages = record { timetable = timetable; ring = ring; timetable_after = timetable'; ring_after = ring' };
  answer = r;
}

-- the carrier's route has not reached its goal
pub record Away (b : Book) (c : ℕ) : Type 0 where
  pub goal : ℕ
  pub its_goal : GoalOf b c goal
  pub not_reached : ¬ OnRoute b c goal

-- no lane leads to the stop from the one before it
pub record CutOff (lanes : Lanes) (b : Book) (t : ℕ) : Type 0 where
  pub c : ℕ
  pub s : ℕ
  pub u : ℕ
  pub v : ℕ
  pub step : Next b c s u t v
  pub no_lane : lanes u v ≡ None

-- two carriers stop at one place, and no precedence says who goes first
pub record UndecidedAt (b : Book) (s t : ℕ) : Type 0 where
  pub c : ℕ
  pub e : ℕ
  pub u : ℕ
  pub other : c ≢ e
  pub here : Visits b s c u
  pub there : Visits b t e u
  pub later : s < t
  pub nobody_first : ¬ Decided b c e u

-- every carrier's route has reached its goal
abbrev pub AllHome : Book → Type 0
AllHome b = (c : ℕ) → ¬ Away b c

module _ (lanes : Lanes) (b : Book) where
  -- a lane leads to every stop from the one before it
  abbrev pub AllOnLanes : Type 0
  AllOnLanes = (t : ℕ) → ¬ CutOff lanes b t

  -- no two stops are set head on
  abbrev pub NoneOpposed : Type 0
  NoneOpposed = (s t : ℕ) → ¬ Opposed lanes b s t

module _ (j : Judging) (b : Book) where
  -- both pages have a number for each stop
  abbrev pub Long : Type 0
  Long = (length b.stops ≤ length j.pages.timetable) × (length b.stops ≤ length j.pages.ring)

  -- the first numbers of the timetable are the earliest arrivals, and everything else on the pages stands
  pub record Passes (n : ℕ) : Type 0 where
    pub all_stops : n ≡ length b.stops
    pub times : List ℕ
    pub one_each : length times ≡ length b.stops
    pub written : Front j.pages.timetable times j.pages.timetable_after
    pub earliest : Earliest j.lanes j.gap b (λ s. slice_index times s)
    pub ceiling : (s : ℕ) → slice_index times s ≤ (length b.stops - 1) * max 36000 j.largest
    pub ring_stands : j.pages.ring_after ≡ j.pages.ring

  -- the first k numbers of the ring page are a ring of the sheet's lags, with a sum above 0, and everything else on the
  -- pages stands; which such ring is left open
  pub record WaitsInARing (k : ℕ) : Type 0 where
    pub stops : List ℕ
    pub long : length stops ≡ k
    pub ring : RingOf (Lag j.lanes j.gap b) stops
    pub written : Front j.pages.ring stops j.pages.ring_after
    pub timetable_stands : j.pages.timetable_after ≡ j.pages.timetable

  -- the checks in their order, each with the lowest numbers to which it applies
  abbrev pub Answers : Result ℕ JudgeRefusal → Type 0
  Answers (Err PageTooShort) = ¬ Long × Untouched j.pages
  Answers (Err (NotAtGoal c)) = Long × Lowest (Away b) c × Untouched j.pages
  Answers (Err (NoLane t)) = Long × AllHome b × Lowest (CutOff j.lanes b) t × Untouched j.pages
  Answers (Err (Undecided s t)) = Long × AllHome b × AllOnLanes j.lanes b × LowestPair (UndecidedAt b) s t × Untouched j.pages
  Answers (Err (HeadOn s t)) = Long × Complete j.lanes b × LowestPair (Opposed j.lanes b) s t × ¬ Possible j.lanes j.gap b × Untouched j.pages
  Answers (Err (Ring k)) = Long × Complete j.lanes b × NoneOpposed j.lanes b × ¬ Possible j.lanes j.gap b × WaitsInARing k
  Answers (Ok n) = Long × Complete j.lanes b × Possible j.lanes j.gap b × Passes n

  abbrev pub Judged : Type 0
  Judged = Answers j.answer

  -- with pages long enough, a complete sheet passes exactly when some timed plan keeps every standing precedence and is
  -- free of conflict
  abbrev pub PassesExactly : Type 0
  PassesExactly = Long → Complete j.lanes b → (IsOk j.answer ↔ Possible j.lanes j.gap b)
