use Rattle.std.proofs.Common.{ℕ, List, ◌++◌}
use Rattle.std.specs.Io.KnownBytes.{Consumes}
use Rattle.yard_file.specs.Files.{HasRead}
use Rattle.console.proofs.files.feed.Given as goal

abbrev pub invariant-loop : goal.invariant-loop
invariant-loop g l = (bytes : List ℕ) → HasRead l.initial.read bytes → (more : List ℕ) × HasRead l.read (bytes ++ more) × Consumes (g.R.Read.remaining l.initial.file) (g.R.Read.remaining l.file) more
