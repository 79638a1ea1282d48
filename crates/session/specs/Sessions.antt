-- What a session means.
use Rattle.std.specs.Prelude.{◌≡◌, ℕ, List, Result, replicate}
use Rattle.judge.specs.Settling.{Pages}
use Rattle.lane_yard.specs.Meaning.{lanes_of}
use Rattle.plan.specs.Plans.{Lanes}
use Rattle.replies.specs.Answers.{Answer as Reply}
use Rattle.sheet.specs.Book.{Book}
use Rattle.sheet.specs.Sheets.{sheet_book}
use Rattle.session.specs.Writing.{said_by}
use Rattle.session.specs.declared.answer.Answer.{Answer}
use Rattle.session.specs.declared.answer.Refusal.{Refusal}
use Rattle.session.specs.declared.sessions.Session.{Session}

-- the lanes of its yard
abbrev pub lanes_in : Session → Lanes
lanes_in s = lanes_of s.yard

-- the book of its sheet
abbrev pub book_in : Session → Book
book_in s = sheet_book s.sheet

-- what an answer says, with its pages
abbrev pub said_in : Session → Result Answer Refusal → Reply
said_in s a = said_by s.timetable s.ring a

-- a page on which nothing is written yet: a 0 for each stop that a sheet may have
abbrev pub Blank : List ℕ → Type 0
Blank page = page ≡ replicate 1024 0

-- its pages before and after
abbrev pub pages_over : Session → Session → Pages
pages_over s s' = record { timetable = s.timetable; ring = s.ring; timetable_after = s'.timetable; ring_after = s'.ring }
