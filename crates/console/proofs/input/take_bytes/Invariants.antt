use Rattle.std.proofs.Common.{ℕ, List, ◌++◌, take}
use Rattle.console.specs.Taking.{Known, HasTaken}
use Rattle.console.proofs.input.take_bytes.Given as goal

abbrev pub invariant-loop-byte : goal.invariant-loop-byte
invariant-loop-byte g l = (before : List ℕ) (t : g.row.T.Denot) (held : Known) → HasTaken g.T.TakesLines.takes before t held l.initial.line l.initial.taker (g.W.Write.contents l.initial.out) → HasTaken g.T.TakesLines.takes (before ++ take l.byte-index l.bytes) t held l.line l.taker (g.W.Write.contents l.out)
