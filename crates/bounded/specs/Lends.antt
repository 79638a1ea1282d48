-- What a list ends as, where a `&mut` to one of its items is returned.
use Rattle.std.specs.Prelude.{ℕ, List, slice_set}
use Rattle.std.specs.Borrow.{Lends, Fml, RattleType, MutBor}
use Rattle.bounded.specs.contracts.list.BoundedVec.{the_row}

-- once the borrow r ends, the index has the last value written through r
abbrev pub LendsItem : (T MOST : RattleType) → MutBor (List T.Denot) → ℕ → MutBor T.Denot → Fml
LendsItem T MOST list i r = Lends (the_row T MOST) T list r (slice_set list.now i)
