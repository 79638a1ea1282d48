-- The number of each refusal of an entry or a striking.
use Rattle.std.specs.Prelude.{ℕ}
use Rattle.sheet.specs.declared.refusal.EntryRefusal.{EntryRefusal}
use Rattle.sheet.specs.declared.refusal.EntryRefusal.TheVariants.{LimitReached, NoCarrier, EndTaken, RouteAtGoal, PlaceTooHigh, PlaceOnRoute, SameCarrier, NotOnBothRoutes, FirstsGoalOrSecondsStart, AlreadyDecided, NothingToStrike}

abbrev pub number_of : EntryRefusal → ℕ
number_of LimitReached = 1
number_of NoCarrier = 2
number_of EndTaken = 3
number_of RouteAtGoal = 4
number_of PlaceTooHigh = 5
number_of PlaceOnRoute = 6
number_of SameCarrier = 7
number_of NotOnBothRoutes = 8
number_of FirstsGoalOrSecondsStart = 9
number_of AlreadyDecided = 10
number_of NothingToStrike = 11
