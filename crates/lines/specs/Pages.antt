-- Text in a page.
use Rattle.std.specs.Prelude.{ℕ, ◌+◌, cond, List, ◌++◌, length, take, drop, Ok, Err, Result, nat_lt}
use Rattle.lines.specs.declared.entry.Entry.{Entry}
use Rattle.lines.specs.declared.refusal.WriteRefusal.{WriteRefusal}
use Rattle.lines.specs.declared.refusal.WriteRefusal.TheVariants.{GapTooLong, PageTooShort}
use Rattle.lines.specs.Entries.{gap_in, line_of}

-- a page with a text written into it from a position on: every other byte stands
abbrev pub written : List ℕ → ℕ → List ℕ → List ℕ
written page at text = take at page ++ (text ++ drop (at + length text) page)

-- how many bytes are written where a text is to go into a page from a position on: all of it, or the page is too short
abbrev pub placing : List ℕ → ℕ → List ℕ → Result ℕ WriteRefusal
placing page at text = cond (nat_lt (length page) (at + length text)) (Err PageTooShort) (Ok (length text))

-- the same for the line of an entry; a judging under a fixed gap above 36,000 has none
abbrev pub writing : List ℕ → ℕ → Entry → Result ℕ WriteRefusal
writing page at e = cond (nat_lt 36000 (gap_in e)) (Err GapTooLong) (placing page at (line_of e))
