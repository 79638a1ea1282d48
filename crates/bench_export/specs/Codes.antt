-- The code of an outcome.
use Rattle.std.specs.Prelude.{ℕ, ◌+◌, ◌*◌, Ok, Err, Result}
use Rattle.bench_export.specs.declared.fault.Fault.{Fault}
use Rattle.bench_export.specs.declared.fault.Fault.TheVariants.{NoMemory, Lay, Grid, Entry, Judge}
use Rattle.grid_yard.specs.Refusals as setting_out
use Rattle.judge.specs.Refusals as judging
use Rattle.lane_yard.specs.Refusals as laying
use Rattle.sheet.specs.Refusals as entering

-- the number of the refusal; 0 where there is no memory
abbrev pub number_of : Fault → ℕ
number_of NoMemory = 0
number_of (Lay why) = laying.number_of why
number_of (Grid why) = setting_out.number_of why
number_of (Entry why) = entering.number_of why
number_of (Judge why) = judging.number_of why

-- what the refusal tells first, 0 where there is nothing
abbrev pub told_by : Fault → ℕ
told_by NoMemory = 0
told_by (Lay why) = laying.told_by why
told_by (Grid why) = 0
told_by (Entry why) = 0
told_by (Judge why) = (judging.told_by why).0

-- a pass is told by how many stops it has, and a fault by 65,536 times one more than its number, plus what it tells
abbrev pub code_of : Result ℕ Fault → ℕ
code_of (Ok stops) = stops
code_of (Err fault) = 65536 * (number_of fault + 1) + told_by fault
