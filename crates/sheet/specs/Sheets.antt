-- What a sheet shows, for the crates above: its records, and the book that they stand for.
use Rattle.std.specs.Prelude.{List}
use Rattle.sheet.specs.declared.records.Carrier.{Carrier}
use Rattle.sheet.specs.declared.records.Stop.{Stop}
use Rattle.sheet.specs.declared.records.Precedence.{Precedence}
use Rattle.sheet.specs.declared.sheets.Sheet.{Sheet}
use Rattle.sheet.specs.Book.{Book}
use Rattle.sheet.specs.Tables.{book_of}

-- the carriers and the stops, by number
abbrev pub carriers_of : Sheet → List Carrier
carriers_of s = s.tables.carriers

abbrev pub stops_of : Sheet → List Stop
stops_of s = s.tables.stops

-- the standing precedences, in order of entry
abbrev pub precedences_of : Sheet → List Precedence
precedences_of s = s.tables.precedences

abbrev pub sheet_book : Sheet → Book
sheet_book s = book_of s.tables
