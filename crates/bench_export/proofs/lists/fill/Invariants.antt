use Rattle.std.proofs.Common.{map, take}
use Rattle.sheet.specs.Book.{opened}
use Rattle.sheet.specs.Sheets.{sheet_book}
use Rattle.bench_export.specs.Entering.{AllEntered}
use Rattle.bench_export.specs.Numbers.{call_in}
use Rattle.bench_export.proofs.lists.fill.Given as goal

abbrev pub invariant-loop-entry : goal.invariant-loop-entry
invariant-loop-entry l = AllEntered opened (map call_in (take l.entry-index l.entries)) (sheet_book l.sheet)
