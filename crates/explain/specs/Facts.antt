-- Facts of a sheet's lists.
use Rattle.std.specs.Prelude.{◌≡◌, ℕ, ◌<◌, List, length, Some, slice_index_or}
use Rattle.sheet.specs.declared.records.Carrier.{Carrier}
use Rattle.sheet.specs.declared.records.Order.{Order}
use Rattle.sheet.specs.declared.records.Stop.{Stop}
use Rattle.sheet.specs.declared.records.Precedence.{Precedence}
use Rattle.sheet.specs.Records.{no_carrier, no_stop, no_precedence}

-- the carrier's start is the place
abbrev pub Begins : List Carrier → ℕ → ℕ → Type 0
Begins carriers carrier place = (carrier < length carriers) × ((slice_index_or carriers carrier no_carrier).start ≡ place)

-- the carrier's goal is the place
abbrev pub Ends : List Carrier → ℕ → ℕ → Type 0
Ends carriers carrier place = (carrier < length carriers) × ((slice_index_or carriers carrier no_carrier).goal ≡ place)

-- stop k is that of the carrier at the place
abbrev pub Visits : List Stop → ℕ → ℕ → ℕ → Type 0
Visits stops carrier place k = (k < length stops) × ((slice_index_or stops k no_stop).carrier ≡ carrier) × ((slice_index_or stops k no_stop).place ≡ place)

-- the carrier's goal is the place, and its route has reached it
abbrev pub AtGoal : List Carrier → List Stop → ℕ → ℕ → Type 0
AtGoal carriers stops carrier goal = Ends carriers carrier goal × ((k : ℕ) × Visits stops carrier goal k)

-- stop k follows stop s on its route
abbrev pub Follows : List Stop → ℕ → ℕ → Type 0
Follows stops s k = (k < length stops) × ((slice_index_or stops k no_stop).previous ≡ Some s)

-- stop k, at the place, follows stop s
abbrev pub StepsTo : List Stop → ℕ → ℕ → ℕ → Type 0
StepsTo stops s place k = Follows stops s k × ((slice_index_or stops k no_stop).place ≡ place)

-- after stop s the route goes to the place
abbrev pub GoesTo : List Stop → ℕ → ℕ → Type 0
GoesTo stops s place = (k : ℕ) × StepsTo stops s place k

-- precedence k is this one
abbrev pub IsOrder : List Precedence → Order → ℕ → Type 0
IsOrder precedences order k = (k < length precedences) × ((slice_index_or precedences k no_precedence).first ≡ order.first) × ((slice_index_or precedences k no_precedence).second ≡ order.second) × ((slice_index_or precedences k no_precedence).place ≡ order.place)

-- the precedence stands
abbrev pub Stands : List Precedence → Order → Type 0
Stands precedences order = (k : ℕ) × IsOrder precedences order k

-- the same two carriers at the place, the other way round
abbrev pub reversed : Order → Order
reversed order = record { first = order.second; second = order.first; place = order.place }

-- what the carriers' records tell of their routes: a carrier's last stop is at its last place, and that is its goal where
-- any stop of it is at its goal
pub record RoutesTold (carriers : List Carrier) (stops : List Stop) : Type 0 where
  pub last : (c : ℕ) → c < length carriers → Visits stops c (slice_index_or carriers c no_carrier).last_place (slice_index_or carriers c no_carrier).last_stop
  pub ends : (c k : ℕ) → c < length carriers → Visits stops c (slice_index_or carriers c no_carrier).goal k → (slice_index_or carriers c no_carrier).last_place ≡ (slice_index_or carriers c no_carrier).goal
