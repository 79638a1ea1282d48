-- The line of an entry in a page.
use Rattle.std.proofs.Common.{◌≡◌, ℕ, true, cond, List, take, drop, is_ok, Ok, Result, ap, ◌∙◌}
use Rattle.lines.specs.declared.entry.Entry.{Entry}
use Rattle.lines.specs.declared.entry.Input.{Input}
use Rattle.lines.specs.declared.refusal.WriteRefusal.{WriteRefusal}
use Rattle.lines.specs.Entries.{kind_of, line_of, Lawful, has}
use Rattle.lines.specs.Pages.{written, placing}
use Rattle.lines.specs.Reading.{reading}
use Rattle.lines.proofs.Placing.{placed_there}
use Rattle.lines.proofs.RoundTrip.{read_back}

-- the line of a lawful entry that was placed in a page reads there as the entry
pub placed_back : (e : Entry) (page after : List ℕ) (at : ℕ) (r : Result ℕ WriteRefusal) → Lawful e → r ≡ placing page at (line_of e) → after ≡ cond (is_ok r) (written page at (line_of e)) page → (n : ℕ) (input : Input) → r ≡ Ok n → has input (kind_of e) ≡ true → reading input (take n (drop at after)) ≡ Ok e
placed_back e page after at r lawful value left n input ok kind =
    ap (reading input) (placed_there page (line_of e) after at n r value left ok) ∙ read_back input e lawful kind
