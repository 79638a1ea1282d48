-- The calls on a book: what each answers, and the book that it leaves.
use Rattle.std.specs.Prelude.{◌≡◌, ℕ, ◌+◌, ◌-◌, ◌<◌, ◌≤◌, ◌⊎◌, [], ◌∷◌, ◌++◌, length, Ok, Err, Result}
use Rattle.std.specs.List.{remove}
use Rattle.sheet.specs.declared.refusal.EntryRefusal.{EntryRefusal}
use Rattle.sheet.specs.declared.refusal.EntryRefusal.TheVariants.{LimitReached, NoCarrier, EndTaken, RouteAtGoal, PlaceTooHigh, PlaceOnRoute, SameCarrier, NotOnBothRoutes, FirstsGoalOrSecondsStart, AlreadyDecided, NothingToStrike}
use Rattle.sheet.specs.Book.{Book, Stands, StartOf, GoalOf, OnRoute, ReachedGoal, Decided}

-- the four calls that change a book
pub data Call : Type 0 where
  enter_carrier : (start goal : ℕ) → Call
  enter_stop : (carrier place : ℕ) → Call
  enter_precedence : (first second place : ℕ) → Call
  strike_precedence : (first second place : ℕ) → Call

-- a number, or why the call is refused
abbrev pub Answer : Type 0
Answer = Result ℕ EntryRefusal

-- no place has this number
abbrev pub TooHigh : ℕ → Type 0
TooHigh u = 4095 < u

-- there is no carrier of this number
abbrev pub Unknown : Book → ℕ → Type 0
Unknown b c = length b.carriers ≤ c

-- the limits: 64 carriers, 1,024 stops and 2,048 standing precedences
abbrev pub CarriersFull : Book → Type 0
CarriersFull b = 64 ≤ length b.carriers

abbrev pub StopsFull : Book → Type 0
StopsFull b = 1024 ≤ length b.stops

abbrev pub PrecedencesFull : Book → Type 0
PrecedencesFull b = 2048 ≤ length b.precedences

-- some carrier has this start
abbrev pub StartTaken : Book → ℕ → Type 0
StartTaken b u = (c : ℕ) × StartOf b c u

-- some carrier has this goal
abbrev pub GoalTaken : Book → ℕ → Type 0
GoalTaken b v = (c : ℕ) × GoalOf b c v

-- this precedence stands
abbrev pub Standing : Book → ℕ → ℕ → ℕ → Type 0
Standing b first second u = (k : ℕ) × Stands b k first second u

-- checks in their order: when each applies, and how it then refuses
pub data Checks : Type 1 where
  no_more : Checks
  check : Type 0 → EntryRefusal → Checks → Checks

-- that there are two carriers and not one, before the other checks
abbrev pub pair_checks : Book → ℕ → ℕ → Checks → Checks
pair_checks b first second others =
    check (Unknown b first ⊎ Unknown b second) NoCarrier
    (check (first ≡ second) SameCarrier
    others)

-- the checks of each call
abbrev pub checks : Book → Call → Checks
checks b (enter_carrier start goal) =
    check (TooHigh start ⊎ TooHigh goal) PlaceTooHigh
    (check (CarriersFull b ⊎ StopsFull b) LimitReached
    (check (StartTaken b start ⊎ GoalTaken b goal) EndTaken
    no_more))
checks b (enter_stop c u) =
    check (Unknown b c) NoCarrier
    (check (TooHigh u) PlaceTooHigh
    (check (ReachedGoal b c) RouteAtGoal
    (check (OnRoute b c u) PlaceOnRoute
    (check (StopsFull b) LimitReached
    no_more))))
checks b (enter_precedence first second u) =
    pair_checks b first second
    (check ((¬ OnRoute b first u) ⊎ (¬ OnRoute b second u)) NotOnBothRoutes
    (check (GoalOf b first u ⊎ StartOf b second u) FirstsGoalOrSecondsStart
    (check (Decided b first second u) AlreadyDecided
    (check (PrecedencesFull b) LimitReached
    no_more))))
checks b (strike_precedence first second u) =
    pair_checks b first second
    (check (¬ Standing b first second u) NothingToStrike
    no_more)

-- the first check that applies refuses so
abbrev pub Refuses : Checks → EntryRefusal → Type 0
Refuses no_more refusal = ⊥
Refuses (check Applies its_own others) refusal = (Applies × (refusal ≡ its_own)) ⊎ ((¬ Applies) × Refuses others refusal)

-- no check applies
abbrev pub Accepts : Checks → Type 0
Accepts no_more = Unit {0}
Accepts (check Applies refusal others) = (¬ Applies) × Accepts others

-- no check applies, or the first that applies refuses
abbrev pub CheckedBy : {X : Type 0} → Checks → Result X EntryRefusal → Type 0
CheckedBy cs (Ok x) = Accepts cs
CheckedBy cs (Err refusal) = Refuses cs refusal

-- the call passes its checks, or the first that applies refuses it
abbrev pub Checked : {X : Type 0} → Book → Call → Result X EntryRefusal → Type 0
Checked b call result = CheckedBy (checks b call) result

-- what an accepted call answers: the number of the new carrier or stop, or how many precedences then stand
abbrev pub number : Book → Call → ℕ
number b (enter_carrier start goal) = length b.carriers
number b (enter_stop c u) = length b.stops
number b (enter_precedence first second u) = length b.precedences + 1
number b (strike_precedence first second u) = length b.precedences - 1

-- the book answers the call so
abbrev pub Answers : Book → Call → Answer → Type 0
Answers b call (Ok n) = Accepts (checks b call) × (n ≡ number b call)
Answers b call (Err refusal) = Refuses (checks b call) refusal

-- the book with one more carrier, and its first stop
abbrev pub with_carrier : Book → ℕ → ℕ → Book
with_carrier b start goal = record {
  carriers = b.carriers ++ record { start = start; goal = goal } ∷ [];
  stops = b.stops ++ record { carrier = length b.carriers; place = start } ∷ [];
  precedences = b.precedences;
}

-- the book with one more stop
abbrev pub with_stop : Book → ℕ → ℕ → Book
with_stop b c u = record {
  carriers = b.carriers;
  stops = b.stops ++ record { carrier = c; place = u } ∷ [];
  precedences = b.precedences;
}

-- the book with one more precedence
abbrev pub with_precedence : Book → ℕ → ℕ → ℕ → Book
with_precedence b first second u = record {
  carriers = b.carriers;
  stops = b.stops;
  precedences = b.precedences ++ record { first = first; second = second; place = u } ∷ [];
}

-- the book without the precedence at number k; the others keep their order
abbrev pub without_precedence : Book → ℕ → Book
without_precedence b k = record {
  carriers = b.carriers;
  stops = b.stops;
  precedences = remove b.precedences k;
}

-- an accepted call turns the book b into b'
abbrev pub Changes : Book → Call → Book → Type 0
Changes b (enter_carrier start goal) b' = b' ≡ with_carrier b start goal
Changes b (enter_stop c u) b' = b' ≡ with_stop b c u
Changes b (enter_precedence first second u) b' = b' ≡ with_precedence b first second u
Changes b (strike_precedence first second u) b' = (k : ℕ) × Stands b k first second u × (b' ≡ without_precedence b k)

-- the call with this answer leaves the book b'; a refused call changes nothing
abbrev pub Leaves : Book → Call → Answer → Book → Type 0
Leaves b call (Ok n) b' = Changes b call b'
Leaves b call (Err refusal) b' = b' ≡ b
