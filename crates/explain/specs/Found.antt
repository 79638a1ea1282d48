-- What a look-up finds.
use Rattle.std.specs.Prelude.{Some, None, Option}

-- what is found has the property, and nothing is found only where nothing has it
abbrev pub Finds : {A : Type 0} → (A → Type 0) → Option A → Type 0
Finds Has (Some a) = Has a
Finds {A = A} Has None = (a : A) → ¬ Has a
