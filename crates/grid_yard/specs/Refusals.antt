-- The number of each refusal of a grid.
use Rattle.std.specs.Prelude.{ℕ}
use Rattle.grid_yard.specs.declared.refusal.GridRefusal.{GridRefusal}
use Rattle.grid_yard.specs.declared.refusal.GridRefusal.TheVariants.{BadSize, BadTime, TooFewWords}

abbrev pub number_of : GridRefusal → ℕ
number_of BadSize = 21
number_of BadTime = 21
number_of TooFewWords = 21
