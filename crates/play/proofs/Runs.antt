-- A run that goes on.
use Rattle.std.proofs.Common.{◌≡◌, ℕ, ◌≤◌, Some, List, [], ◌∷◌, ◌++◌, length, refl, ap}
use Rattle.judge.specs.Findings.{Setting, Finds}
use Rattle.judge.specs.FindingHistories.{Event, entered, judged, Happens, Lawful}
use Rattle.plan.specs.Plans.{Lanes, Gaps}
use Rattle.sheet.specs.Book.{Book}
use Rattle.sheet.specs.Calls.{Call as Entry, Answer as EntryAnswer, Answers, Leaves}
use Rattle.sheet.specs.Histories.{History, opening, ◌▹◌}
use Rattle.play.specs.Runs.{Beside, EnteredSo, JudgedSo, IsEvent}
use Rattle.play.specs.Verdicts.{VerdictResult, finding_of}
use Rattle.play.specs.declared.answers.Answer.{Answer}
use Rattle.play.specs.declared.answers.Answer.TheVariants.{Entered, Judged}
use Rattle.play.specs.declared.calls.Call.{Call}

-- an entry or a striking with its answer is an event
pub entered_event : {b b' : Book} (call : Entry) (answer : EntryAnswer) → Answers b call answer → Leaves b call answer b' → (e : Event) × EnteredSo call (Entered answer) e × Happens b e b'
entered_event call answer answers leaves = (entered call answer, refl, (answers, leaves))

-- and so is a judging with its verdict
pub judged_event : {b : Book} (y : Setting) (verdict : VerdictResult) → length b.stops ≤ 1024 → Finds y b (finding_of verdict) → (e : Event) × JudgedSo y (Judged verdict) e × Happens b e b
judged_event y verdict few finds = (judged y 1024 (Some (finding_of verdict)), refl, ((few, finds), refl))

module _ {Y R : Type 0} (lanes : Y → Lanes) (gaps : R → Gaps) (largest : ℕ) where
  -- one call more with its answer
  beside_more : (h : History Event) (calls : List (Call Y R)) (answers : List Answer) (h' : History Event) (call : Call Y R) (answer : Answer) (e : Event) → Beside lanes gaps largest h calls answers h' → IsEvent lanes gaps largest call answer e → Beside lanes gaps largest h (calls ++ call ∷ []) (answers ++ answer ∷ []) (h' ▹ e)
  beside_more h [] [] h' call answer e is event = (e, event, ap (λ (k : History Event). k ▹ e) is)
  beside_more h [] (a ∷ others) h' call answer e is event = absurd is
  beside_more h (c ∷ cs) [] h' call answer e is event = absurd is
  beside_more h (c ∷ cs) (a ∷ others) h' call answer e (first, its_event, rest) event = (first, its_event, beside_more (h ▹ first) cs others h' call answer e rest event)

  -- the calls so far with their answers, and the book that they left
  pub record SoFar (calls : List (Call Y R)) (answers : List Answer) (b : Book) : Type 0 where
    pub history : History Event
    pub beside : Beside lanes gaps largest opening calls answers history
    pub lawful : Lawful history b

module _ {Y R : Type 0} {lanes : Y → Lanes} {gaps : R → Gaps} {largest : ℕ} where
  -- one more
  pub further : {calls calls' : List (Call Y R)} {answers answers' : List Answer} {b b' : Book} (call : Call Y R) (answer : Answer) → SoFar lanes gaps largest calls answers b → ((e : Event) × IsEvent lanes gaps largest call answer e × Happens b e b') → calls' ≡ calls ++ call ∷ [] → answers' ≡ answers ++ answer ∷ [] → SoFar lanes gaps largest calls' answers' b'
  further {calls} {answers = answers} {b = b} call answer s (e, is, happens) its_calls its_answers =
      rw (its_calls, its_answers) (record {
        history = s.history ▹ e;
        beside = beside_more lanes gaps largest opening calls answers s.history call answer e s.beside is;
        lawful = (b, s.lawful, happens);
      })
