-- What judging finds of routes that have all reached their goals, from the tables that it works with.
use Rattle.std.specs.Prelude.{◌≡◌, ℕ, Bool, List, length, Some, None, Ok, Err, Option, Result}
use Rattle.sheet.specs.declared.records.Precedence.{Precedence}
use Rattle.sheet.specs.declared.records.Stop.{Stop}
use Rattle.judge.specs.declared.refusal.JudgeRefusal.{JudgeRefusal}
use Rattle.judge.specs.declared.refusal.JudgeRefusal.TheVariants.{PageTooShort, NotAtGoal, NoLane, Undecided, HeadOn, Ring}
use Rattle.judge.specs.declared.legs.Leg.{Leg}
use Rattle.judge.specs.Legs.{Legs, NoLaneTo}
use Rattle.judge.specs.Lowest.{LowestPair}
use Rattle.judge.specs.Meetings.{Leads, OpenMeeting, LowestOpposed}
use Rattle.judge.specs.Settling.{Pages, Settles}
use Rattle.judge.specs.Waits.{Between, Ready}

-- both pages are as they were
abbrev pub Untouched : Pages → Type 0
Untouched p = (p.timetable_after ≡ p.timetable) × (p.ring_after ≡ p.ring)

module _ (stops : List Stop) (legs : List Leg) (precedences : List Precedence) (leads : List Bool) where
  -- every meeting is decided
  abbrev pub AllDecided : Type 0
  AllDecided = (s t : ℕ) → ¬ OpenMeeting stops leads s t

  -- why precedences are refused: the lowest meeting that is not decided, then the lowest two stops that are set head on
  abbrev pub RefusedBy : JudgeRefusal → Type 0
  RefusedBy PageTooShort = ⊥
  RefusedBy (NotAtGoal carrier) = ⊥
  RefusedBy (NoLane stop) = ⊥
  RefusedBy (Undecided s t) = LowestPair (OpenMeeting stops leads) s t
  RefusedBy (HeadOn s t) = AllDecided × LowestOpposed stops legs leads precedences (length precedences) (Some (s, t))
  RefusedBy (Ring long) = ⊥

-- the precedences decide every meeting and set no two stops head on
pub record PrecedencesClear (stops : List Stop) (legs : List Leg) (precedences : List Precedence) : Type 0 where
  pub leads : List Bool
  pub marks : Leads precedences (length precedences) leads
  pub decided : AllDecided stops legs precedences leads
  pub none_opposed : LowestOpposed stops legs leads precedences (length precedences) None

-- or they are refused
pub record PrecedencesRefused (stops : List Stop) (legs : List Leg) (precedences : List Precedence) (e : JudgeRefusal) : Type 0 where
  pub leads : List Bool
  pub marks : Leads precedences (length precedences) leads
  pub refused : RefusedBy stops legs precedences leads e

module _ (lanes : ℕ → ℕ → Option ℕ) (gap : ℕ → ℕ → ℕ → ℕ) (most : ℕ) (stops : List Stop) (precedences : List Precedence) (p : Pages) where
  -- all legs are found, the precedences are clear, and the lags are worked out
  pub record WorkedOut (r : Result ℕ JudgeRefusal) : Type 0 where
    pub legs : List Leg
    pub known : Legs lanes stops (length stops) legs
    pub ready : Ready stops precedences legs
    pub clear : PrecedencesClear stops legs precedences
    pub settles : Settles (Between gap stops legs precedences) (length stops) most p r

  -- all legs are found, and the precedences are refused
  pub record TurnedDown (e : JudgeRefusal) : Type 0 where
    pub legs : List Leg
    pub known : Legs lanes stops (length stops) legs
    pub ready : Ready stops precedences legs
    pub refused : PrecedencesRefused stops legs precedences e
    pub untouched : Untouched p

  abbrev pub Routed : Result ℕ JudgeRefusal → Type 0
  Routed (Ok n) = WorkedOut (Ok n)
  Routed (Err PageTooShort) = ⊥
  Routed (Err (NotAtGoal carrier)) = ⊥
  Routed (Err (NoLane stop)) = NoLaneTo lanes stops stop × Untouched p
  Routed (Err (Undecided s t)) = TurnedDown (Undecided s t)
  Routed (Err (HeadOn s t)) = TurnedDown (HeadOn s t)
  Routed (Err (Ring k)) = WorkedOut (Err (Ring k))
