-- What a judging shows, as the session's answer says it.
use Rattle.std.proofs.Common.{◌≡◌, ℕ, Result, ap, ◌∙◌, rules}
use Rattle.judge.specs.Judged.{Judging}
use Rattle.judge.specs.Shown.{Concluded, room_of, setting_in, shown_by}
use Rattle.judge.specs.Settling.{Pages}
use Rattle.judge.specs.declared.refusal.JudgeRefusal.{JudgeRefusal}
use Rattle.judge.proofs.Shown.{concludes_shown}
use Rattle.sheet.specs.Book.{Book}
use Rattle.session.specs.Answers.{judged_as}
use Rattle.session.specs.Writing.{said_by}
use Rattle.session.specs.Replies.{JudgingReplied, reply_to_finding}
use Rattle.session.specs.declared.answer.Answer.{Answer}
use Rattle.session.specs.declared.answer.Refusal.{Refusal}

-- the answer says what was found
says_found : (p : Pages) (r : Result ℕ JudgeRefusal) → said_by p.timetable_after p.ring_after (judged_as r) ≡ reply_to_finding (shown_by p.timetable_after p.ring_after r)
says_found p r = search rules

-- the reply to a judging on pages of 1,024 numbers
pub judging_replied : (j : Judging) (b : Book) (a : Result Answer Refusal) → Concluded j b → room_of j.pages ≡ 1024 → a ≡ judged_as j.answer → JudgingReplied (setting_in j) b (said_by j.pages.timetable_after j.pages.ring_after a)
judging_replied j b a judged room is = record {
  found = shown_by j.pages.timetable_after j.pages.ring_after j.answer;
  concludes = concludes_shown j b 1024 room judged;
  says = ap (said_by j.pages.timetable_after j.pages.ring_after) is ∙ says_found j.pages j.answer;
}
