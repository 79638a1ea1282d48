-- What is replied to the lines of an input.
use Rattle.std.specs.Prelude.{◌≡◌, ℕ, List, [], ◌∷◌, ◌++◌}
use Rattle.std.specs.Io.KnownBytes.{Appends, Consumes, IsAtEnd}
use Rattle.plan.specs.Plans.{Lanes}
use Rattle.sheet.specs.Book.{Book}
use Rattle.sheet.specs.Histories.{History, opening, ◌▹◌}
use Rattle.session.specs.Replies.{Exchange, Lawful}
use Rattle.session.specs.Sessions.{book_in, lanes_in}
use Rattle.session.specs.Writing.{Continues}
use Rattle.session.specs.declared.sessions.Session.{Session}
use Rattle.yard_file.specs.Lines.{lines_of}
use Rattle.console.specs.Taking.{Known}

-- the session replies to the line, and the reply with its newline is all that is written
pub record Replies (s : Session) (line : List ℕ) (before after : Known) (s' : Session) : Type 0 where
  pub reply : List ℕ
  pub goes_on : Continues (lanes_in s) (book_in s) line reply (book_in s')
  pub same_yard : s'.yard ≡ s.yard
  pub written : Appends before after (reply ++ 10 ∷ [])

-- the lines of a history, in their order
abbrev pub lines_in : History Exchange → List (List ℕ)
lines_in opening = []
lines_in (h ▹ e) = lines_in h ++ e.0 ∷ []

-- its replies, each with a newline
abbrev pub replies_in : History Exchange → List ℕ
replies_in opening = []
replies_in (h ▹ e) = replies_in h ++ (e.1 ++ 10 ∷ [])

-- the input is read to its end, its lines with what is written are a lawful history, and nothing else is written
pub record AllReplied (lanes : Lanes) (left left' held held' : Known) : Type 0 where
  pub bytes : List ℕ
  pub read : Consumes left left' bytes
  pub ended : IsAtEnd left'
  pub history : History Exchange
  pub book : Book
  pub lawful : Lawful lanes history book
  pub lines : lines_in history ≡ lines_of bytes
  pub written : Appends held held' (replies_in history)
