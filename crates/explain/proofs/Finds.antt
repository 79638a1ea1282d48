-- Finding one thing, or else another.
use Rattle.std.proofs.Common.{◌⊎◌, Some, None, Option, inl, inr, ⊎_elim}
use Rattle.std.specs.Option.{option_or}
use Rattle.explain.specs.Found.{Finds}

-- what is found in one way, or else in the other, is found in one of the two
pub finds_or : {A : Type 0} (One Other : A → Type 0) (r s : Option A) → Finds One r → Finds Other s → Finds (λ a. One a ⊎ Other a) (option_or r s)
finds_or One Other (Some a) s found _ = inl found
finds_or One Other None (Some a) _ found = inr found
finds_or One Other None None none no_other = λ a has. ⊎_elim (none a) (no_other a) has
