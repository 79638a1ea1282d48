-- What an entry, a striking or a line does, as the session's answer says it.
use Rattle.std.proofs.Common.{◌≡◌, ℕ, List, take, Result, sym, refl, ap, ◌∙◌, rules}
use Rattle.judge.specs.FindingHistories.{entered, judged}
use Rattle.lines.specs.Reading.{reading}
use Rattle.lines.specs.declared.entry.Entry.{Entry}
use Rattle.lines.specs.declared.entry.Entry.TheVariants.{Judge}
use Rattle.lines.specs.declared.entry.Input.TheVariants.{Sheet}
use Rattle.lines.proofs.Readings.{reading_kept}
use Rattle.plan.specs.Plans.{Lanes}
use Rattle.replies.specs.Answers.{Answer as Reply, line_of}
use Rattle.sheet.specs.Book.{Book}
use Rattle.sheet.specs.Calls.{Call, Answer}
use Rattle.sheet.specs.Histories.{Enters}
use Rattle.session.specs.Answers.{entered_as}
use Rattle.session.specs.Writing.{Continues, said_by}
use Rattle.session.specs.Replies.{Asks, EntryReplied, JudgingReplied, LineReplied, reply_to_answer, setting_of}
use Rattle.session.specs.declared.answer.Answer.{Answer as Said}
use Rattle.session.specs.declared.answer.Refusal.{Refusal}
use Rattle.yard.specs.declared.rules.Rule.{Rule}

says_entered : (timetable page : List ℕ) (answer : Answer) → said_by timetable page (entered_as answer) ≡ reply_to_answer answer
says_entered timetable page answer = search rules

module _ (lanes : Lanes) (b b' : Book) (entry : Entry) (timetable page : List ℕ) where
  -- an entry that asks for a call
  pub called : (call : Call) (answer : Answer) (a : Result Said Refusal) → Asks lanes entry (entered call answer) → Enters b (call, answer) b' → a ≡ entered_as answer → EntryReplied lanes b entry (said_by timetable page a) b'
  called call answer a asked enters is = record {
    event = entered call answer;
    asked = asked;
    happens = enters;
    says = ap (said_by timetable page) is ∙ says_entered timetable page answer;
  }

  -- an entry that asks for a judging
  pub judged_under : (rule : Rule ℕ) (reply : Reply) → entry ≡ Judge rule → JudgingReplied (setting_of lanes rule) b reply → b' ≡ b → EntryReplied lanes b entry reply b'
  judged_under rule reply is replied same = record {
    event = judged (setting_of lanes rule) 1024 replied.found;
    asked = rw is (replied.found, refl);
    happens = (replied.concludes, same);
    says = replied.says;
  }

-- lines of which the same is kept read the same
same_reading : (whole line : List ℕ) → take 65 whole ≡ take 65 line → reading Sheet line ≡ reading Sheet whole
same_reading whole line same = sym (reading_kept Sheet line) ∙ ap (reading Sheet) (sym same) ∙ reading_kept Sheet whole

pub continues : (lanes : Lanes) (b b' : Book) (line : List ℕ) (reply : Reply) → LineReplied lanes b line reply b' → Continues lanes b line (line_of reply) b'
continues lanes b b' line reply replied h whole same l = (b, l, (reply, rw (same_reading whole line same) at replied, refl))
