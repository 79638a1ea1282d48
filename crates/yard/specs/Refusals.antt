-- The number of the refusal of a gap.
use Rattle.std.specs.Prelude.{ℕ}
use Rattle.yard.specs.declared.refusal.GapRefusal.{GapRefusal}
use Rattle.yard.specs.declared.refusal.GapRefusal.TheVariants.{GapTooLong}

abbrev pub number_of : GapRefusal → ℕ
number_of GapTooLong = 25
