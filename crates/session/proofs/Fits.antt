-- What a reply that is written leaves at the front of a page.
use Rattle.std.proofs.Common.{◌≡◌, IsOk, ℕ, ◌≤◌, cond, is_ok, List, length, take, Ok, Result, arith, length-take}
use Rattle.lines.specs.Pages.{written}
use Rattle.lines.specs.declared.refusal.WriteRefusal.{WriteRefusal}
use Rattle.replies.specs.Answers.{Answer as Reply, count, line_of, writing}
use Rattle.replies.proofs.Room.{reply_room, reply_size, reply_there}
use Rattle.plan.specs.Plans.{Lanes}
use Rattle.sheet.specs.Book.{Book}
use Rattle.session.specs.Answers.{OnPages}
use Rattle.session.specs.Writing.{Continues, said_by}
use Rattle.session.specs.declared.answer.Answer.{Answer}
use Rattle.session.specs.declared.answer.Refusal.{Refusal}

-- a reply lists no more numbers than the answer says
pub said_few : (timetable page : List ℕ) (a : Result Answer Refusal) → OnPages a → count (said_by timetable page a) ≤ 1024
said_few timetable page a on = grind (arith, length-take {A = ℕ})

-- a reply that lists at most 1,024 numbers has at most 8,198 digits
short : (reply : Reply) → count reply ≤ 1024 → length (line_of reply) ≤ 8198
short reply h = grind (arith, reply_size reply)

-- what is written to a page that has room for every reply
module _ (page : List ℕ) (r : Result ℕ WriteRefusal) (reply : Reply) (few : count reply ≤ 1024) (room : length page ≡ 8198) (value : r ≡ writing page 0 reply) where
  pub finds_room : IsOk r
  finds_room = let s = short reply few in reply_room page 0 r reply (omega arith) value (omega arith)

  -- the history goes on with what stands on the page
  pub goes_on : (page' : List ℕ) → page' ≡ cond (is_ok r) (written page 0 (line_of reply)) page → (n : ℕ) → r ≡ Ok n → (lanes : Lanes) (b b' : Book) (line : List ℕ) → Continues lanes b line (line_of reply) b' → Continues lanes b line (take n page') b'
  goes_on page' after n ok lanes b b' line c = rw (reply_there page 0 r reply (omega arith) value page' after n ok) c
