use Rattle.std.proofs.Common.{◌≤◌}
use Rattle.arrayvec.specs.ArrayVec.{array_vec_len}
use Rattle.judge.specs.Waits.{Lists, Travel}
use Rattle.judge.proofs.tables.Tables.gather_steps.Given as goal

abbrev pub invariant-loop-t : goal.invariant-loop-t
invariant-loop-t l = (array_vec_len l.lags ≤ l.t) × Lists (Travel l.stops l.legs l.t) l.lags.items
