-- The legs between stops, as judging holds them: for each stop the travel time to it from the stop before it, and the next stop.
use Rattle.std.specs.Prelude.{◌≡◌, ℕ, ◌<◌, ◌≤◌, List, length, Some, None, Option, ◌≢◌, slice_index_or}
use Rattle.sheet.specs.declared.records.Stop.{Stop}
use Rattle.sheet.specs.declared.records.Carrier.{Carrier}
use Rattle.sheet.specs.Records.{no_carrier, no_stop}
use Rattle.judge.specs.declared.legs.Leg.{Leg}
use Rattle.judge.specs.declared.refusal.JudgeRefusal.{JudgeRefusal}
use Rattle.judge.specs.declared.refusal.JudgeRefusal.TheVariants.{PageTooShort, NotAtGoal, NoLane, Undecided, HeadOn, Ring}

-- carrier c's latest stop is not at its goal
abbrev pub ShortOfGoal : List Carrier → ℕ → Type 0
ShortOfGoal carriers c = (c < length carriers) × ((slice_index_or carriers c no_carrier).last_place ≢ (slice_index_or carriers c no_carrier).goal)

-- what is read past the end of a list
abbrev pub no_leg : Leg
no_leg = record { time = 0; next = None }

-- the travel time to stop t from the stop before it
abbrev pub time_to : List Leg → ℕ → ℕ
time_to legs t = (slice_index_or legs t no_leg).time

-- the stop after stop s on its route
abbrev pub next_after : List Leg → ℕ → Option ℕ
next_after legs s = (slice_index_or legs s no_leg).next

-- each next stop is one of the stops
abbrev pub NextsInside : List Leg → Type 0
NextsInside legs = (s t : ℕ) → next_after legs s ≡ Some t → t < length legs

-- the travel time to each next stop is one that a lane may have
abbrev pub Timely : List Leg → Type 0
Timely legs = (s t : ℕ) → next_after legs s ≡ Some t → (1 ≤ time_to legs t) × (time_to legs t ≤ 36000)

-- the travel time to each stop that follows another is one that a lane may have
abbrev pub Stepped : List Stop → List Leg → Type 0
Stepped stops legs = (t p : ℕ) → t < length stops → (slice_index_or stops t no_stop).previous ≡ Some p → (1 ≤ time_to legs t) × (time_to legs t ≤ 36000)

module _ (lanes : ℕ → ℕ → Option ℕ) (stops : List Stop) where
  -- the stop before stop t on its route is p
  abbrev pub Previous : ℕ → ℕ → Type 0
  Previous t p = (slice_index_or stops t no_stop).previous ≡ Some p

  -- the lane from stop p's place to stop t's
  abbrev pub lane_between : ℕ → ℕ → Option ℕ
  lane_between p t = lanes (slice_index_or stops p no_stop).place (slice_index_or stops t no_stop).place

  -- the legs to the stops below n
  pub record Legs (n : ℕ) (legs : List Leg) : Type 0 where
    pub timed : (t p : ℕ) → t < n → Previous t p → lane_between p t ≡ Some (time_to legs t)
    pub next : (s t : ℕ) → next_after legs s ≡ Some t → (t < n) × Previous t s
    pub some_next : (t p : ℕ) → t < n → Previous t p → next_after legs p ≢ None

  -- no lane leads to stop t from the stop before it, and to each lower stop one does
  pub record NoLaneTo (t : ℕ) : Type 0 where
    pub within : t < length stops
    pub p : ℕ
    pub comes_from : Previous t p
    pub none : lane_between p t ≡ None
    pub lower : (r q : ℕ) → r < t → Previous r q → lane_between q r ≢ None

  -- what the search for legs refuses by
  abbrev pub LegRefused : JudgeRefusal → Type 0
  LegRefused PageTooShort = ⊥
  LegRefused (NotAtGoal carrier) = ⊥
  LegRefused (NoLane stop) = NoLaneTo stop
  LegRefused (Undecided stop later) = ⊥
  LegRefused (HeadOn stop other) = ⊥
  LegRefused (Ring long) = ⊥
