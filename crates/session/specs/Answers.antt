-- What a session answers to a line.
use Rattle.std.specs.Prelude.{◌≡◌, ℕ, ◌<◌, ◌≤◌, List, Ok, Err, Result}
use Rattle.judge.specs.Judged.{Judged, judging_of}
use Rattle.judge.specs.declared.refusal.JudgeRefusal.{JudgeRefusal}
use Rattle.judge.specs.Settling.{Pages, Within}
use Rattle.lines.specs.declared.entry.Entry.{Entry}
use Rattle.lines.specs.declared.entry.Entry.TheVariants.{Carrier, Stop, Precedence, Strike, Judge, Lane}
use Rattle.lines.specs.declared.refusal.LineRefusal.{LineRefusal}
use Rattle.lines.specs.declared.refusal.LineRefusal.TheVariants.{UnknownKind, BadRule}
use Rattle.replies.specs.Answers.{Answer as Reply}
use Rattle.plan.specs.Plans.{Lanes, Gaps}
use Rattle.sheet.specs.Book.{Book}
use Rattle.sheet.specs.Calls.{Call, enter_carrier, enter_stop, enter_precedence, strike_precedence}
use Rattle.sheet.specs.Histories.{Enters}
use Rattle.sheet.specs.declared.refusal.EntryRefusal.{EntryRefusal}
use Rattle.session.specs.Rules.{largest_of}
use Rattle.session.specs.Writing.{Stand, Written, said_by}
use Rattle.session.specs.declared.answer.Answer.{Answer}
use Rattle.session.specs.declared.answer.Answer.TheVariants.{Accepted, Passed}
use Rattle.session.specs.declared.answer.Refusal.{Refusal}
use Rattle.session.specs.declared.answer.Refusal.TheVariants.{Line, Entry as OfEntry, Judge as OfJudge}
use Rattle.yard.specs.Rules.{gap_of, gaps_of}
use Rattle.yard.specs.declared.rules.Rule.{Rule}

-- as many numbers as are answered are on the pages, which have 1,024
abbrev pub OnPages : Result Answer Refusal → Type 0
OnPages (Ok (Accepted number)) = Unit {0}
OnPages (Ok (Passed stops)) = stops ≤ 1024
OnPages (Err (Line why)) = Unit {0}
OnPages (Err (OfEntry why)) = Unit {0}
OnPages (Err (OfJudge why)) = Within 1024 1024 (Err why)

-- what comes of an entry or a striking
abbrev pub entered_as : Result ℕ EntryRefusal → Result Answer Refusal
entered_as (Ok number) = Ok (Accepted number)
entered_as (Err why) = Err (OfEntry why)

-- what comes of a judging
abbrev pub judged_as : Result ℕ JudgeRefusal → Result Answer Refusal
judged_as (Ok stops) = Ok (Passed stops)
judged_as (Err why) = Err (OfJudge why)

-- the answer is that of a judging of the book in the yard under the rule, with these pages
pub record Judges (lanes : Lanes) (gap : Gaps) (largest : ℕ) (b : Book) (p : Pages) (a : Result Answer Refusal) : Type 0 where
  pub outcome : Result ℕ JudgeRefusal
  pub judged : Judged (judging_of lanes gap largest p.timetable p.ring p.timetable_after p.ring_after outcome) b
  pub is : a ≡ judged_as outcome

-- the answer is that of a call on the book, which becomes b'
pub record Calls (b : Book) (call : Call) (b' : Book) (a : Result Answer Refusal) : Type 0 where
  pub outcome : Result ℕ EntryRefusal
  pub enters : Enters b (call, outcome) b'
  pub is : a ≡ entered_as outcome

-- what the reply to an answer says
abbrev pub said : Pages → Result Answer Refusal → Reply
said p a = said_by p.timetable_after p.ring_after a

-- what an entry is answered, and the book that it leaves
module _ (lanes : Lanes) (b b' : Book) (p : Pages) where
  -- under a rule with a gap above 36,000 there is no judging
  abbrev pub Ruled : Rule ℕ → Result Answer Refusal → Type 0
  Ruled rule a = (gap_of rule ≤ 36000 → Judges lanes (gaps_of (λ g. g) rule) (largest_of rule) b p a) × (36000 < gap_of rule → a ≡ Err (Line BadRule))

  abbrev pub Answered : Entry → Result Answer Refusal → Type 0
  Answered (Carrier start goal) a = Calls b (enter_carrier start goal) b' a
  Answered (Stop carrier place) a = Calls b (enter_stop carrier place) b' a
  Answered (Precedence first second place) a = Calls b (enter_precedence first second place) b' a
  Answered (Strike first second place) a = Calls b (strike_precedence first second place) b' a
  Answered (Judge rule) a = Ruled rule a × (b' ≡ b)
  Answered (Lane from to time) a = (a ≡ Err (Line UnknownKind)) × (b' ≡ b)

  -- what a line is answered, by what it reads as; a line that cannot be read leaves the book as it is
  abbrev pub LineAnswered : Result Entry LineRefusal → Result Answer Refusal → Type 0
  LineAnswered (Ok entry) a = Answered entry a
  LineAnswered (Err why) a = (a ≡ Err (Line why)) × (b' ≡ b)

  -- the reply to a line, of n bytes, stands at the front of the page
  pub record Replied (line : Result Entry LineRefusal) (page page' : List ℕ) (n : ℕ) : Type 0 where
    pub answer : Result Answer Refusal
    pub answered : LineAnswered line answer
    pub on_page : Written page page' n (said p answer)
    -- the session's own pages stand but for what a judging writes
    pub stand : Stand p answer
