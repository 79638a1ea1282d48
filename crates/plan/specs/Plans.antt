-- Timed plans and their conflicts, by tick.
use Rattle.std.specs.Prelude.{◌≡◌, ℕ, ◌+◌, ◌-◌, ◌<◌, ◌≤◌, ◌≢◌, ◌⊎◌, length, Some, Option}
use Rattle.sheet.specs.Book.{Book, GoalOf, Visits, Stands, Next, Starts}

-- a yard's meaning: the travel time from place to place, where there is a lane
abbrev pub Lanes : Type 0
Lanes = ℕ → ℕ → Option ℕ

-- a following rule's meaning: the gap behind a carrier that goes from place to place in a travel time
abbrev pub Gaps : Type 0
Gaps = ℕ → ℕ → ℕ → ℕ

-- the tick at which a carrier departs towards its stop t, d ticks away; in a timed plan it is never cut off at 0
abbrev pub departs : (ℕ → ℕ) → ℕ → ℕ → ℕ
departs α t d = α t - d

module _ (lanes : Lanes) (b : Book) where
  -- carrier c goes from its stop s at u to its next stop t at v, by a lane of d ticks
  pub record Leg (c s u t v d : ℕ) : Type 0 where
    pub next : Next b c s u t v
    pub lane : lanes u v ≡ Some d

  -- arrivals by stop number: each route begins at tick 0, and nobody arrives sooner than the lanes allow
  pub record Timed (α : ℕ → ℕ) : Type 0 where
    pub starts : (c s u : ℕ) → Starts b c s u → α s ≡ 0
    pub travels : (c s u t v d : ℕ) → Leg c s u t v d → α s + d ≤ α t

  -- carrier c is at its stop s, at u, at the tick: from its arrival until it departs, or without end where it goes no further
  pub record Present (α : ℕ → ℕ) (c s u tick : ℕ) : Type 0 where
    pub here : Visits b s c u
    pub arrived : α s ≤ tick
    pub not_gone : (t v d : ℕ) → Leg c s u t v d → tick ≤ departs α t d

  -- each standing precedence: the first has departed before the second arrives
  abbrev pub Keeps : (ℕ → ℕ) → Type 0
  Keeps α = (k first second u s t v d r : ℕ) → Stands b k first second u → Leg first s u t v d → Visits b r second u → departs α t d < α r

  -- each route has reached its goal, each step is a lane, and each meeting is decided
  pub record Complete : Type 0 where
    pub home : (c v : ℕ) → GoalOf b c v → (s : ℕ) × Visits b s c v
    pub on_lanes : (c s u t v : ℕ) → Next b c s u t v → (d : ℕ) × (lanes u v ≡ Some d)
    pub decided : (c e s r u : ℕ) → c ≢ e → Visits b s c u → Visits b r e u → (k : ℕ) × (Stands b k c e u ⊎ Stands b k e c u)

  -- two stops set head on: each goes to the other's place, and each one's carrier goes first at its own
  pub record Opposed (s t : ℕ) : Type 0 where
    pub c : ℕ
    pub e : ℕ
    pub u : ℕ
    pub v : ℕ
    pub s_goes : (q d : ℕ) × Leg c s u q v d
    pub t_goes : (q d : ℕ) × Leg e t v q u d
    pub first_at_u : (k : ℕ) × Stands b k c e u
    pub first_at_v : (k : ℕ) × Stands b k e c v

module _ (lanes : Lanes) (gap : Gaps) (b : Book) where
  pub data Conflict (α : ℕ → ℕ) : Type 0 where
    -- two carriers are at one place at one tick
    at_one_place : (c e s r u tick : ℕ) → c ≢ e → Present lanes b α c s u tick → Present lanes b α e r u tick → Conflict α
    -- a carrier reaches a place after another departed from it, but within the gap
    following : (c e s u t v d r : ℕ) → c ≢ e → Leg lanes b c s u t v d → Visits b r e u → departs α t d < α r → α r ≤ departs α t d + gap u v d → Conflict α
    -- two carriers are on the way between the same two places, in opposite directions, at one tick
    head_on : (c e s u t v d r q d' tick : ℕ) → c ≢ e → Leg lanes b c s u t v d → Leg lanes b e r v q u d' → departs α t d < tick → tick ≤ α t → departs α q d' < tick → tick ≤ α q → Conflict α

  -- a timed plan that keeps every standing precedence and is free of conflict
  pub record Good (α : ℕ → ℕ) : Type 0 where
    pub timed : Timed lanes b α
    pub keeps : Keeps lanes b α
    pub free : ¬ Conflict α

  -- a good plan, and every good plan has each arrival at least as late
  pub record Earliest (α : ℕ → ℕ) : Type 0 where
    pub good : Good α
    pub least : (β : ℕ → ℕ) → Good β → (s : ℕ) → s < length b.stops → α s ≤ β s

  -- some plan is good
  abbrev pub Possible : Type 0
  Possible = (α : ℕ → ℕ) × Good α
