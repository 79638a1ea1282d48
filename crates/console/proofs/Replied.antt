-- Replies to the lines of an input, one after another, as a history.
use Rattle.std.proofs.Common.{◌≡◌, ℕ, List, [], ◌∷◌, ◌++◌, take, Ok, Err, OnOk, Result, sym, ◌∙◌, ap, subst, arith}
use Rattle.std.proofs.lemmas.List.{append_assoc, append-nil, length-take, take_all}
use Rattle.std.proofs.KnownBytes.{Appends-kept, Appends-nil, Appends-trans}
use Rattle.std.specs.Io.KnownBytes.{Appends, Keeps}
use Rattle.lane_yard.specs.Meaning.{lanes_of}
use Rattle.plan.specs.Plans.{Lanes}
use Rattle.sheet.specs.Book.{Book}
use Rattle.sheet.specs.Histories.{History, opening, ◌▹◌}
use Rattle.session.specs.Replies.{Exchange, Lawful}
use Rattle.session.specs.Sessions.{book_in, lanes_in}
use Rattle.session.specs.Writing.{Continues}
use Rattle.yard_file.specs.Lines.{lines_of}
use Rattle.console.specs.Taking.{Known, Takes, TakesAll, TakesInTurn, given}
use Rattle.console.specs.Replying.{AllReplied, Replies, lines_in, replies_in}
use Rattle.console.specs.declared.judge_lines.Replier.{Replier}

-- what a replier does with a line
abbrev pub takes : Takes Replier
takes s line before after s' = Replies s.session line before after s'.session

-- the lines with their replies lead from the history h on, and the replies are what is written
pub record Led (lanes : Lanes) (h : History Exchange) (asked : List (List ℕ)) (held held' : Known) (b : Book) : Type 0 where
  pub history : History Exchange
  pub lawful : Lawful lanes history b
  pub lines : lines_in history ≡ lines_in h ++ asked
  pub text : List ℕ
  pub replies : replies_in history ≡ replies_in h ++ text
  pub written : Appends held held' text

kept_front : (line : List ℕ) → take 65 line ≡ take 65 (take 65 line)
kept_front line = sym (take_all 65 (take 65 line) (omega (arith, length-take {A = ℕ} 65 line)))

appends_after : (a b c : Known) (text : List ℕ) → Keeps a b → Appends b c text → Appends a c text
appends_after a b c text keeps appends = Appends-trans a b c [] text (Appends-kept a a b [] (Appends-nil a) keeps) appends

pub led : (lines : List (List ℕ)) (lanes : Lanes) (h : History Exchange) (t t' : Replier) (held held' : Known) → lanes_in t.session ≡ lanes → Lawful lanes h (book_in t.session) → TakesInTurn takes (given lines) t held t' held' → Led lanes h lines held held' (book_in t'.session)
led [] lanes h t t' held held' same lawful x =
    let P : Replier → Type 0 = λ r. Lawful lanes h (book_in r.session) in
    record {
      history = h;
      lawful = subst P (sym x.0) lawful;
      lines = sym (append-nil (lines_in h));
      text = [];
      replies = sym (append-nil (replies_in h));
      written = Appends-kept held held held' [] (Appends-nil held) x.1;
    }
led (line ∷ lines) lanes h t t' held held' same lawful x =
    let s = x.0 in
    let took : Replies t.session (take 65 line) x.1 x.2 s.session = x.4 in
    let P : Lanes → Type 0 = λ l. Continues l (book_in t.session) (take 65 line) took.reply (book_in s.session) in
    let goes_on : Lawful lanes (h ▹ (line, took.reply)) (book_in s.session) = subst P same took.goes_on h line (kept_front line) lawful in
    let rest = led lines lanes (h ▹ (line, took.reply)) s t' x.2 held' (ap lanes_of took.same_yard ∙ same) goes_on x.5 in
    record {
      history = rest.history;
      lawful = rest.lawful;
      lines = rest.lines ∙ append_assoc (lines_in h) (line ∷ []) lines;
      text = (took.reply ++ 10 ∷ []) ++ rest.text;
      replies = rest.replies ∙ append_assoc (replies_in h) (took.reply ++ 10 ∷ []) rest.text;
      written = Appends-trans held x.2 held' (took.reply ++ 10 ∷ []) rest.text (appends_after held x.1 x.2 (took.reply ++ 10 ∷ []) x.3 took.written) rest.written;
    }

-- all lines of an input, from the opening on
pub all_replied : {E : Type 0} (r : Result (Unit {0}) E) (lanes : Lanes) (left left' held held' : Known) (t t' : Replier) → lanes_in t.session ≡ lanes → Lawful lanes opening (book_in t.session) → OnOk r (TakesAll takes left left' t held t' held') → OnOk r (AllReplied lanes left left' held held')
all_replied (Ok done) lanes left left' held held' t t' same lawful all =
    let l = led (lines_of all.bytes) lanes opening t t' held held' same lawful all.taken in
    record {
      bytes = all.bytes;
      read = all.read;
      ended = all.ended;
      history = l.history;
      book = book_in t'.session;
      lawful = l.lawful;
      lines = l.lines;
      written = let P : List ℕ → Type 0 = λ text. Appends held held' text in subst P (sym l.replies) l.written;
    }
all_replied (Err why) lanes left left' held held' t t' same lawful all = tt
