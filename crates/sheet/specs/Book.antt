-- The book: what a sheet means, apart from how it is stored.
use Rattle.std.specs.Prelude.{◌≡◌, ℕ, ◌<◌, ◌⊎◌, List, [], Some}
use Rattle.std.specs.List.{slice_get}

-- a carrier, by the places where its route begins and ends
pub record BookCarrier : Type 0 where
  pub start : ℕ
  pub goal : ℕ

-- a stop: a carrier's visit to a place
pub record BookStop : Type 0 where
  pub carrier : ℕ
  pub place : ℕ

-- a precedence: the first carrier leaves the place before the second reaches it
pub record BookPrecedence : Type 0 where
  pub first : ℕ
  pub second : ℕ
  pub place : ℕ

-- three lists, each in order of entry; the number of a carrier and of a stop is its index
pub record Book : Type 0 where
  pub carriers : List BookCarrier
  pub stops : List BookStop
  pub precedences : List BookPrecedence

-- a sheet that has just been opened
abbrev pub opened : Book
opened = record { carriers = []; stops = []; precedences = [] }

-- carrier c goes from u, its start, to v, its goal
abbrev pub Goes : Book → ℕ → ℕ → ℕ → Type 0
Goes b c u v = slice_get b.carriers c ≡ Some (record { start = u; goal = v })

-- stop s is carrier c's, at the place u
abbrev pub Visits : Book → ℕ → ℕ → ℕ → Type 0
Visits b s c u = slice_get b.stops s ≡ Some (record { carrier = c; place = u })

-- the carrier that is called first leaves u before the second reaches it, and this stands at number k
abbrev pub Stands : Book → ℕ → ℕ → ℕ → ℕ → Type 0
Stands b k first second u = slice_get b.precedences k ≡ Some (record { first = first; second = second; place = u })

-- the start of carrier c is u
abbrev pub StartOf : Book → ℕ → ℕ → Type 0
StartOf b c u = (v : ℕ) × Goes b c u v

-- the goal of carrier c is v
abbrev pub GoalOf : Book → ℕ → ℕ → Type 0
GoalOf b c v = (u : ℕ) × Goes b c u v

-- u is on the route of carrier c
abbrev pub OnRoute : Book → ℕ → ℕ → Type 0
OnRoute b c u = (s : ℕ) × Visits b s c u

-- the route of carrier c has reached its goal
abbrev pub ReachedGoal : Book → ℕ → Type 0
ReachedGoal b c = (v : ℕ) × GoalOf b c v × OnRoute b c v

-- carriers c and e have a precedence at u, either way round
abbrev pub Decided : Book → ℕ → ℕ → ℕ → Type 0
Decided b c e u = (k : ℕ) × (Stands b k c e u ⊎ Stands b k e c u)

-- carrier c's next stop after s, at u, is t, at v
pub record Next (b : Book) (c s u t v : ℕ) : Type 0 where
  pub here : Visits b s c u
  pub there : Visits b t c v
  pub later : s < t
  pub none_between : (r w : ℕ) → s < r → r < t → ¬ Visits b r c w

-- stop s, at u, is the first of carrier c
pub record Starts (b : Book) (c s u : ℕ) : Type 0 where
  pub here : Visits b s c u
  pub first : (r w : ℕ) → r < s → ¬ Visits b r c w

-- stop s, at u, is the latest of carrier c
pub record Latest (b : Book) (c s u : ℕ) : Type 0 where
  pub here : Visits b s c u
  pub last : (r w : ℕ) → s < r → ¬ Visits b r c w
