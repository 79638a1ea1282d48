use Rattle.std.proofs.Common.{ℕ, List, ◌++◌, take}
use Rattle.yard_file.specs.Files.{HasRead}
use Rattle.yard_file.proofs.files.YardFile.read.Given as goal

abbrev pub invariant-loop-byte : goal.invariant-loop-byte
invariant-loop-byte l = (bytes : List ℕ) → HasRead l.initial.self bytes → HasRead l.self (bytes ++ take l.byte-index l.more)
