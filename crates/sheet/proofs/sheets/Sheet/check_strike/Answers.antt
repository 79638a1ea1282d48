use Rattle.sheet.specs.declared.refusal.EntryRefusal.TheVariants.{NothingToStrike}
use Rattle.sheet.specs.Book.{Stands}
use Rattle.sheet.specs.Tables.{book_of}
use Rattle.sheet.proofs.Checks.{checked_by_search}
use Rattle.sheet.proofs.Found.{precedence_found}
use Rattle.sheet.proofs.sheets.Sheet.check_strike.Goals as goal

pub returns-clause-checked : goal.returns-clause-checked
returns-clause-checked c =
    let t = c.args.self.now.tables in
    let o = c.args.order in
    let found = precedence_found t c.find.result o.first o.second o.place (rw c.precedences.ensures at c.find.ensures) in
    rw c.ok_or.ensures.value (checked_by_search (book_of t) o.first o.second c.in_ok-pair.ensures.checked (λ k. Stands (book_of t) k o.first o.second o.place) NothingToStrike c.find.result found)
