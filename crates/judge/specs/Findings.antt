-- What a judging finds, in the words of the subject.
use Rattle.std.specs.Prelude.{◌≡◌, ℕ, ◌-◌, ◌*◌, ◌≤◌, max, List, length, slice_index}
use Rattle.lags.specs.Ways.{Ring}
use Rattle.sheet.specs.Book.{Book}
use Rattle.plan.specs.Lags.{Lag}
use Rattle.plan.specs.Plans.{Lanes, Gaps, Earliest, Possible, Complete, Opposed}
use Rattle.judge.specs.Judged.{Away, CutOff, UndecidedAt, AllHome, AllOnLanes, NoneOpposed}
use Rattle.judge.specs.Lowest.{Lowest, LowestPair}

-- where and how a sheet is judged: the yard's meaning, the rule's, and the largest gap that the rule names
pub record Setting : Type 0 where
  pub lanes : Lanes
  pub gap : Gaps
  pub largest : ℕ

pub data Finding : Type 0 where
  -- this carrier's route has not reached its goal
  not_at_goal : ℕ → Finding
  -- no lane leads to this stop from the one before it
  no_lane : ℕ → Finding
  -- two carriers are at one place, by these stops, and neither goes first
  undecided : ℕ → ℕ → Finding
  -- these two stops are set head on
  head_on : ℕ → ℕ → Finding
  -- these stops wait for each other in a ring
  in_a_ring : List ℕ → Finding
  -- the sheet passes, with these arrivals by stop number
  passes : List ℕ → Finding

module _ (y : Setting) (b : Book) where
  -- no timed plan keeps every standing precedence and is free of conflict
  abbrev pub Impossible : Type 0
  Impossible = ¬ Possible y.lanes y.gap b

  -- one arrival for each stop: the earliest good plan, and none above the ceiling
  pub record EarliestTimes (times : List ℕ) : Type 0 where
    pub one_each : length times ≡ length b.stops
    pub earliest : Earliest y.lanes y.gap b (λ s. slice_index times s)
    pub ceiling : (s : ℕ) → slice_index times s ≤ (length b.stops - 1) * max 36000 y.largest

  -- the checks in their order: each finding with the lowest numbers to which it applies, and none of those before it
  abbrev pub Finds : Finding → Type 0
  Finds (not_at_goal c) = Lowest (Away b) c
  Finds (no_lane t) = AllHome b × Lowest (CutOff y.lanes b) t
  Finds (undecided s t) = AllHome b × AllOnLanes y.lanes b × LowestPair (UndecidedAt b) s t
  Finds (head_on s t) = Complete y.lanes b × LowestPair (Opposed y.lanes b) s t × Impossible
  Finds (in_a_ring stops) = Complete y.lanes b × NoneOpposed y.lanes b × Ring (Lag y.lanes y.gap b) stops × Impossible
  Finds (passes times) = Complete y.lanes b × EarliestTimes times
