-- A judging under the rule that a line names.
use Rattle.std.proofs.Common.{◌≡◌, ℕ, ◌≤◌, List, Option, Result, arith, rules}
use Rattle.judge.specs.Findings.{Finding}
use Rattle.judge.specs.Judged.{Judged, judging_of}
use Rattle.judge.specs.Settling.{Pages}
use Rattle.judge.specs.Shown.{Concluded, Concludes, room_of}
use Rattle.judge.specs.declared.refusal.JudgeRefusal.{JudgeRefusal}
use Rattle.plan.specs.Plans.{Gaps, Lanes}
use Rattle.sheet.specs.Book.{Book}
use Rattle.session.specs.declared.answer.Answer.{Answer}
use Rattle.session.specs.declared.answer.Refusal.{Refusal}
use Rattle.session.specs.Answers.{Ruled, judged_as}
use Rattle.session.specs.Replies.{JudgingReplied, setting_of}
use Rattle.session.specs.Rules.{largest_of}
use Rattle.session.specs.Writing.{said_by}
use Rattle.session.proofs.Found.{judging_replied}
use Rattle.yard.specs.Rules.{gap_of, gaps_of}
use Rattle.yard.specs.declared.rules.Rule.{Rule}
use Rattle.yard.specs.declared.rules.Rule.TheVariants.{FullLane, LaneLessOne, FixedGap}

module _ (lanes : Lanes) (gap : Gaps) (b : Book) where
  -- a ceiling takes the greater of 36,000 and the rule's largest gap, which is none above 36,000
  judged_largest : (rule : Rule ℕ) (timetable ring timetable' ring' : List ℕ) (r : Result ℕ JudgeRefusal) → Judged (judging_of lanes gap 36000 timetable ring timetable' ring' r) b → Judged (judging_of lanes gap (largest_of rule) timetable ring timetable' ring' r) b
  judged_largest FullLane timetable ring timetable' ring' r j = j
  judged_largest LaneLessOne timetable ring timetable' ring' r j = search rules
  judged_largest (FixedGap ticks) timetable ring timetable' ring' r j = j

  concludes_largest : (rule : Rule ℕ) (found : Option Finding) → Concludes (record { lanes = lanes; gap = gap; largest = 36000 }) b 1024 found → Concludes (record { lanes = lanes; gap = gap; largest = largest_of rule }) b 1024 found
  concludes_largest FullLane found c = c
  concludes_largest LaneLessOne found c = search rules
  concludes_largest (FixedGap ticks) found c = c

  -- a judging under the rule's gaps is one under the rule
  module _ (p : Pages) (rule : Rule ℕ) (r : Result ℕ JudgeRefusal) (a : Result Answer Refusal) (same : gap ≡ gaps_of (λ g. g) rule) (is : a ≡ judged_as r) where
    pub ruled : (b' : Book) → gap_of rule ≤ 36000 → Judged (judging_of lanes gap 36000 p.timetable p.ring p.timetable_after p.ring_after r) b → Ruled lanes b b' p rule a
    ruled b' short j =
        rw (← same) (λ _. record { outcome = r; judged = judged_largest rule p.timetable p.ring p.timetable_after p.ring_after r j; is = is }, λ large. absurd (omega arith))

    pub replied : room_of p ≡ 1024 → Concluded (judging_of lanes gap 36000 p.timetable p.ring p.timetable_after p.ring_after r) b → JudgingReplied (setting_of lanes rule) b (said_by p.timetable_after p.ring_after a)
    replied room concluded =
        let said = judging_replied (judging_of lanes gap 36000 p.timetable p.ring p.timetable_after p.ring_after r) b a concluded room is in
        rw (← same) (record { found = said.found; concludes = concludes_largest rule said.found said.concludes; says = said.says })
