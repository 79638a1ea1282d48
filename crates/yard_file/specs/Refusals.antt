-- The number of each refusal, and what it tells.
use Rattle.std.specs.Prelude.{ℕ}
use Rattle.lane_yard.specs.Refusals as laying
use Rattle.lines.specs.Refusals as reading
use Rattle.yard_file.specs.declared.refusal.FileRefusal.{FileRefusal}
use Rattle.yard_file.specs.declared.refusal.FileRefusal.TheVariants.{Line, Lay}

abbrev pub number_of : FileRefusal → ℕ
number_of (Line why) = reading.number_of why
number_of (Lay why) = laying.number_of why

abbrev pub told_by : FileRefusal → ℕ
told_by (Line why) = reading.told_by why
told_by (Lay why) = laying.told_by why
