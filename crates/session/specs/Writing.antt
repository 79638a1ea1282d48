-- What a session's answer says with the session's pages, and what is written of it on a page.
use Rattle.std.specs.Prelude.{◌≡◌, ℕ, List, length, take, Ok, Err, Result}
use Rattle.judge.specs.Settling.{Pages}
use Rattle.judge.specs.declared.refusal.JudgeRefusal.TheVariants.{Ring as RingOf}
use Rattle.lines.specs.Pages.{written}
use Rattle.replies.specs.Answers.{Answer as Reply, accepted, passed, ring, refused, line_of}
use Rattle.plan.specs.Plans.{Lanes}
use Rattle.sheet.specs.Book.{Book}
use Rattle.sheet.specs.Histories.{History, ◌▹◌}
use Rattle.session.specs.Refusals.{number_of, told_by}
use Rattle.session.specs.Replies.{Exchange, Lawful, LineReplied}
use Rattle.session.specs.declared.answer.Answer.{Answer}
use Rattle.session.specs.declared.answer.Answer.TheVariants.{Accepted, Passed}
use Rattle.session.specs.declared.answer.Refusal.{Refusal}
use Rattle.session.specs.declared.answer.Refusal.TheVariants.{Judge}

-- what an answer says, with the session's timetable and its ring page
abbrev pub said_by : List ℕ → List ℕ → Result Answer Refusal → Reply
said_by timetable page (Ok (Accepted number)) = accepted number
said_by timetable page (Ok (Passed stops)) = passed (take stops timetable)
said_by timetable page (Err (Judge (RingOf long))) = ring (take long page)
said_by timetable page (Err refusal) = refused (number_of refusal) (told_by refusal).0 (told_by refusal).1

-- the timetable stands unless the sheet passes, and the ring page unless there is a ring
abbrev pub Stand : Pages → Result Answer Refusal → Type 0
Stand p (Ok (Passed stops)) = p.ring_after ≡ p.ring
Stand p (Err (Judge (RingOf long))) = p.timetable_after ≡ p.timetable
Stand p a = (p.timetable_after ≡ p.timetable) × (p.ring_after ≡ p.ring)

-- a reply stands at the front of the page, with this length, and the rest of the page stands
pub record Written (page page' : List ℕ) (n : ℕ) (reply : Reply) : Type 0 where
  pub size : n ≡ length (line_of reply)
  pub after : page' ≡ written page 0 (line_of reply)

-- the line is replied, and the reply is written
pub record ReplyWritten (lanes : Lanes) (b b' : Book) (line page page' : List ℕ) (n : ℕ) : Type 0 where
  pub reply : Reply
  pub replied : LineReplied lanes b line reply b'
  pub on_page : Written page page' n reply

-- every history that led lawfully to b goes on with the line, and with every longer one of which its first 65 bytes are
-- kept, and this reply
abbrev pub Continues : Lanes → Book → List ℕ → List ℕ → Book → Type 0
Continues lanes b line text b' = (h : History Exchange) (whole : List ℕ) → take 65 whole ≡ take 65 line → Lawful lanes h b → Lawful lanes (h ▹ (whole, text)) b'
