-- What is asked in a run and what is answered, as a history.
use Rattle.std.specs.Prelude.{◌≡◌, ℕ, List, [], ◌∷◌, Some}
use Rattle.judge.specs.Findings.{Setting}
use Rattle.judge.specs.FindingHistories.{Event, entered, judged, Lawful}
use Rattle.plan.specs.Plans.{Lanes, Gaps}
use Rattle.sheet.specs.Book.{Book}
use Rattle.sheet.specs.Calls.{Call as Entry, enter_carrier, enter_stop, enter_precedence, strike_precedence}
use Rattle.sheet.specs.Histories.{History, opening, ◌▹◌}
use Rattle.play.specs.Verdicts.{finding_of}
use Rattle.play.specs.declared.answers.Answer.{Answer}
use Rattle.play.specs.declared.answers.Answer.TheVariants.{Entered, Judged}
use Rattle.play.specs.declared.calls.Call.{Call}
use Rattle.play.specs.declared.calls.Call.TheVariants.{EnterCarrier, EnterStop, EnterPrecedence, StrikePrecedence, Judge}

-- an entry or a striking with its answer; only a judging answers a verdict
abbrev pub EnteredSo : Entry → Answer → Event → Type 0
EnteredSo call (Entered outcome) e = e ≡ entered call outcome
EnteredSo call (Judged verdict) e = ⊥

-- a judging with its verdict
abbrev pub JudgedSo : Setting → Answer → Event → Type 0
JudgedSo y (Entered outcome) e = ⊥
JudgedSo y (Judged verdict) e = e ≡ judged y 1024 (Some (finding_of verdict))

-- over any kind of yard and of rule, by what they mean
module _ {Y R : Type 0} (lanes : Y → Lanes) (gaps : R → Gaps) (largest : ℕ) where
  -- the call with this answer is this event
  abbrev pub IsEvent : Call Y R → Answer → Event → Type 0
  IsEvent (EnterCarrier start goal) a e = EnteredSo (enter_carrier start goal) a e
  IsEvent (EnterStop carrier place) a e = EnteredSo (enter_stop carrier place) a e
  IsEvent (EnterPrecedence first second place) a e = EnteredSo (enter_precedence first second place) a e
  IsEvent (StrikePrecedence first second place) a e = EnteredSo (strike_precedence first second place) a e
  IsEvent (Judge yard rule) a e = JudgedSo (record { lanes = lanes yard; gap = gaps rule; largest = largest }) a e

  -- the calls, each with its answer, in their order and none left out, lead from the history h on to h'
  abbrev pub Beside : History Event → List (Call Y R) → List Answer → History Event → Type 0
  Beside h [] [] h' = h' ≡ h
  Beside h [] (a ∷ others) h' = ⊥
  Beside h (c ∷ cs) [] h' = ⊥
  Beside h (c ∷ cs) (a ∷ others) h' = (e : Event) × IsEvent c a e × Beside (h ▹ e) cs others h'

  -- from the opening on, the calls with their answers are a lawful history
  pub record Played (calls : List (Call Y R)) (answers : List Answer) : Type 0 where
    pub history : History Event
    pub book : Book
    pub beside : Beside opening calls answers history
    pub lawful : Lawful history book
