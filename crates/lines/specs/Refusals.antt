-- The number of each refusal, and what it tells.
use Rattle.std.specs.Prelude.{ℕ}
use Rattle.lines.specs.declared.refusal.LineRefusal.{LineRefusal}
use Rattle.lines.specs.declared.refusal.LineRefusal.TheVariants.{BadDigit, BadLength, UnknownKind, BadRule}
use Rattle.lines.specs.declared.refusal.WriteRefusal.{WriteRefusal}
use Rattle.lines.specs.declared.refusal.WriteRefusal.TheVariants.{GapTooLong, PageTooShort, ListTooLong}

abbrev pub number_of : LineRefusal → ℕ
number_of (BadDigit column) = 22
number_of BadLength = 23
number_of UnknownKind = 24
number_of BadRule = 25

abbrev pub told_by : LineRefusal → ℕ
told_by (BadDigit column) = column
told_by BadLength = 0
told_by UnknownKind = 0
told_by BadRule = 0

abbrev pub write_number_of : WriteRefusal → ℕ
write_number_of GapTooLong = 25
write_number_of PageTooShort = 12
write_number_of ListTooLong = 12
