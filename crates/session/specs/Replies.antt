-- What the lines of a session are replied, and what they do to its sheet, from the opening on.
use Rattle.std.specs.Prelude.{◌≡◌, ℕ, List, Some, None, Ok, Err, Option, Result}
use Rattle.judge.specs.Findings.{Setting, Finding, not_at_goal, no_lane, undecided, head_on, in_a_ring, passes}
use Rattle.judge.specs.FindingHistories.{Event, entered, judged, Happens}
use Rattle.judge.specs.Shown.{Concludes}
use Rattle.judge.specs.Refusals as judging
use Rattle.judge.specs.declared.refusal.JudgeRefusal.{JudgeRefusal}
use Rattle.judge.specs.declared.refusal.JudgeRefusal.TheVariants.{PageTooShort, NotAtGoal, NoLane, Undecided, HeadOn}
use Rattle.lines.specs.Reading.{reading}
use Rattle.lines.specs.Refusals as unread
use Rattle.lines.specs.declared.entry.Entry.{Entry}
use Rattle.lines.specs.declared.entry.Entry.TheVariants.{Carrier, Stop, Precedence, Strike, Judge, Lane}
use Rattle.lines.specs.declared.entry.Input.TheVariants.{Sheet}
use Rattle.lines.specs.declared.refusal.LineRefusal.{LineRefusal}
use Rattle.replies.specs.Answers.{Answer as Reply, accepted, passed, ring, refused, line_of}
use Rattle.plan.specs.Plans.{Lanes}
use Rattle.sheet.specs.Book.{Book}
use Rattle.sheet.specs.Calls.{Answer, enter_carrier, enter_stop, enter_precedence, strike_precedence}
use Rattle.sheet.specs.Histories.{History, Leads}
use Rattle.sheet.specs.Refusals as entering
use Rattle.session.specs.Rules.{largest_of}
use Rattle.yard.specs.Rules.{gaps_of}
use Rattle.yard.specs.declared.rules.Rule.{Rule}

-- the yard's lanes with the rule that a line names
abbrev pub setting_of : Lanes → Rule ℕ → Setting
setting_of lanes rule = record { lanes = lanes; gap = gaps_of (λ g. g) rule; largest = largest_of rule }

-- an entry asks for a call, whatever its answer, or for a judging with 1,024 numbers on each page, whatever it finds
abbrev pub Asks : Lanes → Entry → Event → Type 0
Asks lanes (Carrier start goal) e = (answer : Answer) × (e ≡ entered (enter_carrier start goal) answer)
Asks lanes (Stop carrier place) e = (answer : Answer) × (e ≡ entered (enter_stop carrier place) answer)
Asks lanes (Precedence first second place) e = (answer : Answer) × (e ≡ entered (enter_precedence first second place) answer)
Asks lanes (Strike first second place) e = (answer : Answer) × (e ≡ entered (strike_precedence first second place) answer)
Asks lanes (Judge rule) e = (found : Option Finding) × (e ≡ judged (setting_of lanes rule) 1024 found)
Asks lanes (Lane from to time) e = ⊥

-- the reply to a judging that is refused
abbrev pub reply_to_refusal : JudgeRefusal → Reply
reply_to_refusal why = refused (judging.number_of why) (judging.told_by why).0 (judging.told_by why).1

-- the reply to what a judging finds
abbrev pub reply_to_finding : Option Finding → Reply
reply_to_finding None = reply_to_refusal PageTooShort
reply_to_finding (Some (not_at_goal c)) = reply_to_refusal (NotAtGoal c)
reply_to_finding (Some (no_lane t)) = reply_to_refusal (NoLane t)
reply_to_finding (Some (undecided s t)) = reply_to_refusal (Undecided s t)
reply_to_finding (Some (head_on s t)) = reply_to_refusal (HeadOn s t)
reply_to_finding (Some (in_a_ring stops)) = ring stops
reply_to_finding (Some (passes times)) = passed times

-- the reply to a judging of the book, with 1,024 numbers on each page
pub record JudgingReplied (y : Setting) (b : Book) (reply : Reply) : Type 0 where
  pub found : Option Finding
  pub concludes : Concludes y b 1024 found
  pub says : reply ≡ reply_to_finding found

-- the reply to an entry or a striking
abbrev pub reply_to_answer : Answer → Reply
reply_to_answer (Ok number) = accepted number
reply_to_answer (Err why) = refused (entering.number_of why) 0 0

abbrev pub reply_to : Event → Reply
reply_to (entered call answer) = reply_to_answer answer
reply_to (judged y room found) = reply_to_finding found

-- the entry is replied so: what it asks for happens to the book, and the reply says what came of it
pub record EntryReplied (lanes : Lanes) (b : Book) (entry : Entry) (reply : Reply) (b' : Book) : Type 0 where
  pub event : Event
  pub asked : Asks lanes entry event
  pub happens : Happens b event b'
  pub says : reply ≡ reply_to event

-- a line is replied by what it reads as; one that cannot be read leaves the book as it is
abbrev pub ReadReplied : Lanes → Book → Result Entry LineRefusal → Reply → Book → Type 0
ReadReplied lanes b (Ok entry) reply b' = EntryReplied lanes b entry reply b'
ReadReplied lanes b (Err why) reply b' = (reply ≡ refused (unread.number_of why) (unread.told_by why) 0) × (b' ≡ b)

abbrev pub LineReplied : Lanes → Book → List ℕ → Reply → Book → Type 0
LineReplied lanes b line reply b' = ReadReplied lanes b (reading Sheet line) reply b'

-- a line with its reply, both as bytes
abbrev pub Exchange : Type 0
Exchange = List ℕ × List ℕ

-- the second line is the reply to the first
abbrev pub Exchanged : Lanes → Book → Exchange → Book → Type 0
Exchanged lanes b e b' = (reply : Reply) × LineReplied lanes b e.0 reply b' × (e.1 ≡ line_of reply)

-- every line in the history, from the opening of the sheet on, has its reply, and the lines left this book
abbrev pub Lawful : Lanes → History Exchange → Book → Type 0
Lawful lanes h b = Leads (Exchanged lanes) h b
