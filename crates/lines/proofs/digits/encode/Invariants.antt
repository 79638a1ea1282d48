use Rattle.std.proofs.Common.{◌≡◌, ◌*◌, ◌++◌, take, drop}
use Rattle.lines.specs.Digits.{digits}
use Rattle.lines.proofs.digits.encode.Given as goal

abbrev pub invariant-loop-i : goal.invariant-loop-i
invariant-loop-i l = l.part ≡ digits (take l.i l.bytes) ++ drop (2 * l.i) l.initial.part
