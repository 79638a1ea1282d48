-- A list of one value throughout.
use Rattle.std.proofs.Common.{◌≡◌, ℕ, slice_index_or, replicate, arith}
use Rattle.std.proofs.lemmas.Grind.{common_steps}

pub all_alike : {X : Type 0} (n i : ℕ) (x : X) → slice_index_or (replicate n x) i x ≡ x
all_alike n i x = grind (arith, common_steps)
