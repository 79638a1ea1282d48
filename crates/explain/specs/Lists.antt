-- What a sheet holds.
use Rattle.std.specs.Prelude.{List}
use Rattle.sheet.specs.declared.records.Carrier.{Carrier}
use Rattle.sheet.specs.declared.records.Stop.{Stop}
use Rattle.sheet.specs.declared.records.Precedence.{Precedence}
use Rattle.sheet.specs.Book.{Book}
use Rattle.sheet.specs.declared.sheets.Sheet.{Sheet}
use Rattle.sheet.specs.Records.{book_from}
use Rattle.sheet.specs.Sheets.{carriers_of, stops_of, precedences_of}

-- the carriers, the stops and the precedences of a sheet, in order of entry
pub record Lists : Type 0 where
  pub carriers : List Carrier
  pub stops : List Stop
  pub precedences : List Precedence

-- the book that they stand for
abbrev pub book_of : Lists → Book
book_of lists = book_from lists.carriers lists.stops lists.precedences

-- the lists of a sheet
abbrev pub lists_of : Sheet → Lists
lists_of s = record { carriers = carriers_of s; stops = stops_of s; precedences = precedences_of s }
