use Rattle.std.proofs.Common.{[], arith, rules}
use Rattle.sheet.specs.Sheets.{sheet_book}
use Rattle.bench_export.proofs.Entered.{entered_more, refused_at}
use Rattle.bench_export.proofs.lists.fill.Goals as goal

pub returns-in_err-enter : goal.returns-in_err-enter
returns-in_err-enter c =
    let refused = refused_at c.args.entries.now c.loop-entry.entry-index [] (omega arith) (sheet_book c.loop-entry.sheet) c.loop-entry.invariant c.in_err-enter.field-0.0 (search rules) in
    search rules

pub loop-entry-preserved : goal.loop-entry-preserved
loop-entry-preserved c =
    entered_more c.args.entries.now c.loop-entry.entry-index [] (omega arith) (sheet_book c.loop-entry.sheet) c.loop-entry.invariant (sheet_book c.enter.new.sheet) (search rules) (search rules)
