use Rattle.std.proofs.Common.{ℕ, List}
use Rattle.std.specs.Io.KnownBytes.{Consumes}
use Rattle.console.specs.Taking.{HasTaken}
use Rattle.console.proofs.input.take_chunks.Given as goal

abbrev pub invariant-loop : goal.invariant-loop
invariant-loop g l = (bytes : List ℕ) × Consumes (g.R.Read.remaining l.initial.input) (g.R.Read.remaining l.input) bytes × HasTaken g.T.TakesLines.takes bytes l.initial.taker (g.W.Write.contents l.initial.out) l.line l.taker (g.W.Write.contents l.out)
