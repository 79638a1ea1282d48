-- The worked examples: whole histories of sheets with every answer and every finding, and the lanes of small grids.
use Rattle.std.specs.Prelude.{◌≡◌, ℕ, ◌≤◌, ◌↔◌, List, [], ◌∷◌, ℤ, pos, negsuc, Some, None, Ok, Err, slice_index}
use Rattle.yard.specs.Rules.{gaps_of}
use Rattle.yard.specs.declared.rules.Rule.{Rule}
use Rattle.yard.specs.declared.rules.Rule.TheVariants.{FullLane, LaneLessOne, FixedGap}
use Rattle.lane_yard.specs.declared.lane.Lane.{Lane}
use Rattle.lane_yard.specs.declared.refusal.LayRefusal.TheVariants.{BadLane, NotRising}
use Rattle.lane_yard.specs.Records.{lane, time_of}
use Rattle.lane_yard.specs.Faults.{Lawful as MayBeLaid, Fault as Refused}
use Rattle.grid_yard.specs.declared.plan.Plan.{Plan}
use Rattle.grid_yard.specs.Faults.{Lawful as MayBeSetOut}
use Rattle.grid_yard.specs.Times.{time_of as grid_time}
use Rattle.sheet.specs.declared.refusal.EntryRefusal.TheVariants.{NoCarrier, RouteAtGoal, PlaceTooHigh, FirstsGoalOrSecondsStart, AlreadyDecided, NothingToStrike}
use Rattle.sheet.specs.Book.{BookCarrier, BookStop, BookPrecedence, Book, opened}
use Rattle.sheet.specs.Calls.{enter_carrier, enter_stop, enter_precedence, strike_precedence}
use Rattle.sheet.specs.Histories.{History, opening, ◌▹◌}
use Rattle.lags.specs.declared.Lag.{Lag as LagRecord}
use Rattle.lags.specs.Solved.{Listed}
use Rattle.lags.specs.Ways.{Way, Solution}
use Rattle.plan.specs.Lags.{Lag}
use Rattle.plan.specs.Plans.{Lanes, Gaps, Conflict}
use Rattle.plan.specs.Theorems.{Positive}
use Rattle.judge.specs.Findings.{Setting, undecided, head_on, in_a_ring, passes}
use Rattle.judge.specs.FindingHistories.{Event, entered, judged, Lawful}

-- judging in a yard with these lanes under a following rule, by the gaps that it gives and the largest that it names
abbrev pub under : Gaps → ℕ → Lanes → Setting
under gap largest lanes = record { lanes = lanes; gap = gap; largest = largest }

-- the gaps of a following rule
abbrev pub gaps : Rule ℕ → Gaps
gaps rule = gaps_of (λ g. g) rule

-- under the rule full lane
abbrev pub full_lane : Lanes → Setting
full_lane lanes = under (gaps FullLane) 36000 lanes

-- under the rule lane less one
abbrev pub lane_less_one : Lanes → Setting
lane_less_one lanes = under (gaps LaneLessOne) 35999 lanes

-- under a fixed gap of so many ticks
abbrev pub fixed_gap : ℕ → Lanes → Setting
fixed_gap ticks lanes = under (gaps (FixedGap ticks)) 36000 lanes

-- a lag of w from stop s to stop t
abbrev pub LagIn : Setting → Book → ℕ → ℕ → ℤ → Type 0
LagIn y b = Lag y.lanes y.gap b

-- a lag by the stops from which and to which it counts, and its ticks
abbrev pub lag : ℕ → ℕ → ℤ → LagRecord
lag s t w = record { from = s; to = t; weight = w }

-- the listed lags are the lags, and there are no others
abbrev pub AreTheLags : Setting → Book → List LagRecord → Type 0
AreTheLags y b listed = (s t : ℕ) (w : ℤ) → LagIn y b s t w ↔ Listed listed s t w

-- arrivals by stop number
abbrev pub arrivals : List ℕ → ℕ → ℕ
arrivals times s = slice_index times s

-- a carrier by its start and its goal
abbrev pub carrier : ℕ → ℕ → BookCarrier
carrier start goal = record { start = start; goal = goal }

-- a stop by its carrier and its place
abbrev pub stop : ℕ → ℕ → BookStop
stop c u = record { carrier = c; place = u }

-- a precedence by who goes first, who goes second, and where
abbrev pub precedence : ℕ → ℕ → ℕ → BookPrecedence
precedence first second u = record { first = first; second = second; place = u }

-- the yard P: lanes both ways between 0 and 1 (3 ticks), 1 and 2 (2), 2 and 3 (4), 1 and 4 (5)
abbrev pub lanes_of_P : List Lane
lanes_of_P = lane 0 1 3 ∷ lane 1 0 3 ∷ lane 1 2 2 ∷ lane 1 4 5 ∷ lane 2 1 2 ∷ lane 2 3 4 ∷ lane 3 2 4 ∷ lane 4 1 5 ∷ []

-- its travel times
abbrev pub P : Lanes
P = time_of lanes_of_P

-- the sheet S: carrier 0 from 0 to 3, carrier 1 from 2 to 4, and their further stops, with the precedences that stand
abbrev pub S_with : List BookPrecedence → Book
S_with standing = record {
  carriers = carrier 0 3 ∷ carrier 2 4 ∷ [];
  stops = stop 0 0 ∷ stop 1 2 ∷ stop 0 1 ∷ stop 0 2 ∷ stop 0 3 ∷ stop 1 1 ∷ stop 1 4 ∷ [];
  precedences = standing;
}

-- S as it is entered
abbrev pub S : Book
S = S_with (precedence 1 0 2 ∷ precedence 1 0 1 ∷ [])

-- with the second precedence struck and entered the other way round
abbrev pub S_turned : Book
S_turned = S_with (precedence 1 0 2 ∷ precedence 0 1 1 ∷ [])

-- S is entered, call by call
abbrev pub enters_S : History Event
enters_S =
    opening
    ▹ entered (enter_carrier 0 3) (Ok 0)
    ▹ entered (enter_carrier 2 4) (Ok 1)
    ▹ entered (enter_stop 0 1) (Ok 2)
    ▹ entered (enter_stop 0 2) (Ok 3)
    ▹ entered (enter_stop 0 3) (Ok 4)
    ▹ entered (enter_stop 1 1) (Ok 5)
    ▹ entered (enter_stop 1 4) (Ok 6)
    ▹ entered (enter_precedence 1 0 2) (Ok 1)
    ▹ entered (enter_precedence 1 0 1) (Ok 2)

-- S passes in P under each rule, with these arrivals of the stops 0 to 6
abbrev pub judges_S : History Event
judges_S =
    enters_S
    ▹ judged (full_lane P) 1024 (Some (passes (0 ∷ 0 ∷ 8 ∷ 10 ∷ 14 ∷ 2 ∷ 7 ∷ [])))
    ▹ judged (lane_less_one P) 1024 (Some (passes (0 ∷ 0 ∷ 7 ∷ 9 ∷ 13 ∷ 2 ∷ 7 ∷ [])))
    ▹ judged (fixed_gap 0 P) 1024 (Some (passes (0 ∷ 0 ∷ 3 ∷ 5 ∷ 9 ∷ 2 ∷ 7 ∷ [])))
    ▹ judged (fixed_gap 1 P) 1024 (Some (passes (0 ∷ 0 ∷ 4 ∷ 6 ∷ 10 ∷ 2 ∷ 7 ∷ [])))

-- place 2 is carrier 1's start; at place 1 a precedence stands the other way round, so nothing is entered and nothing struck.
-- Then it is struck, and the stops 2 and 5 at place 1 are undecided; it is entered the other way round, and the stops 1 and 2
-- are set head on. Both are found under every rule
abbrev pub turns_S : Gaps → ℕ → History Event
turns_S gap largest =
    judges_S
    ▹ entered (enter_precedence 0 1 2) (Err FirstsGoalOrSecondsStart)
    ▹ entered (enter_precedence 0 1 1) (Err AlreadyDecided)
    ▹ entered (strike_precedence 0 1 1) (Err NothingToStrike)
    ▹ entered (strike_precedence 1 0 1) (Ok 1)
    ▹ judged (under gap largest P) 1024 (Some (undecided 2 5))
    ▹ entered (enter_precedence 0 1 1) (Ok 2)
    ▹ judged (under gap largest P) 1024 (Some (head_on 1 2))

-- the lags of S: those of travel, and then what carrier 0 waits for carrier 1 at the places 2 and 1
abbrev pub lags_of_S : ℤ → ℤ → List LagRecord
lags_of_S at_2 at_1 = lag 0 2 (pos 3) ∷ lag 1 5 (pos 2) ∷ lag 2 3 (pos 2) ∷ lag 3 4 (pos 4) ∷ lag 5 6 (pos 5) ∷ lag 5 3 at_2 ∷ lag 6 2 at_1 ∷ []

-- under the four rules; negsuc 0 is -1, negsuc 3 is -4 and negsuc 2 is -3
pub record LagsOfS : Type 0 where
  pub by_full_lane : AreTheLags (full_lane P) S (lags_of_S (pos 1) (pos 1))
  pub by_lane_less_one : AreTheLags (lane_less_one P) S (lags_of_S (pos 0) (pos 0))
  pub by_gap_0 : AreTheLags (fixed_gap 0 P) S (lags_of_S (negsuc 0) (negsuc 3))
  pub by_gap_1 : AreTheLags (fixed_gap 1 P) S (lags_of_S (pos 0) (negsuc 2))

-- why head on is not left to the rings: the lags of the ring 3, 5 add up to 2, 0, -2 and 0 under the four rules, and under
-- lane less one these arrivals keep every lag, though in them the two carriers meet on the way
pub record HeadOnApart : Type 0 where
  pub sum_full_lane : Way (LagIn (full_lane P) S_turned) 3 (3 ∷ 5 ∷ []) 3 (pos 2)
  pub sum_lane_less_one : Way (LagIn (lane_less_one P) S_turned) 3 (3 ∷ 5 ∷ []) 3 (pos 0)
  pub sum_fixed_gap_0 : Way (LagIn (fixed_gap 0 P) S_turned) 3 (3 ∷ 5 ∷ []) 3 (negsuc 1)
  pub sum_fixed_gap_1 : Way (LagIn (fixed_gap 1 P) S_turned) 3 (3 ∷ 5 ∷ []) 3 (pos 0)
  pub kept : Solution (LagIn (lane_less_one P) S_turned) (arrivals (0 ∷ 0 ∷ 3 ∷ 5 ∷ 9 ∷ 5 ∷ 10 ∷ []))
  pub conflict : Conflict P (lane_less_one P).gap S_turned (arrivals (0 ∷ 0 ∷ 3 ∷ 5 ∷ 9 ∷ 5 ∷ 10 ∷ []))

-- the triangle: lanes 0 to 1, 1 to 2 and 2 to 0 of one tick each
abbrev pub triangle_lanes : List Lane
triangle_lanes = lane 0 1 1 ∷ lane 1 2 1 ∷ lane 2 0 1 ∷ []

-- their travel times
abbrev pub triangle : Lanes
triangle = time_of triangle_lanes

-- three carriers, each of which goes on to the place that the next leaves; under full lane they wait for each other in a
-- ring, under lane less one they all move at once
abbrev pub judges_triangle : History Event
judges_triangle =
    opening
    ▹ entered (enter_carrier 0 1) (Ok 0)
    ▹ entered (enter_carrier 1 2) (Ok 1)
    ▹ entered (enter_carrier 2 0) (Ok 2)
    ▹ entered (enter_stop 0 1) (Ok 3)
    ▹ entered (enter_stop 1 2) (Ok 4)
    ▹ entered (enter_stop 2 0) (Ok 5)
    ▹ entered (enter_precedence 1 0 1) (Ok 1)
    ▹ entered (enter_precedence 2 1 2) (Ok 2)
    ▹ entered (enter_precedence 0 2 0) (Ok 3)
    ▹ judged (full_lane triangle) 1024 (Some (in_a_ring (3 ∷ 5 ∷ 4 ∷ [])))
    ▹ judged (lane_less_one triangle) 1024 (Some (passes (0 ∷ 0 ∷ 0 ∷ 1 ∷ 1 ∷ 1 ∷ [])))

-- what its sheet then holds
abbrev pub triangle_sheet : Book
triangle_sheet = record {
  carriers = carrier 0 1 ∷ carrier 1 2 ∷ carrier 2 0 ∷ [];
  stops = stop 0 0 ∷ stop 1 1 ∷ stop 2 2 ∷ stop 0 1 ∷ stop 1 2 ∷ stop 2 0 ∷ [];
  precedences = precedence 1 0 1 ∷ precedence 2 1 2 ∷ precedence 0 2 0 ∷ [];
}

-- its lags: those of travel, and then what each carrier waits for the next
abbrev pub lags_of_triangle : ℤ → List LagRecord
lags_of_triangle waits = lag 0 3 (pos 1) ∷ lag 1 4 (pos 1) ∷ lag 2 5 (pos 1) ∷ lag 4 3 waits ∷ lag 5 4 waits ∷ lag 3 5 waits ∷ []

-- one carrier whose start is its goal: it is there at tick 0, and a further stop is refused
abbrev pub judges_one : Setting → ℕ → History Event
judges_one y u =
    opening
    ▹ entered (enter_carrier 6 6) (Ok 0)
    ▹ judged y 1 (Some (passes (0 ∷ [])))
    ▹ entered (enter_stop 0 u) (Err RouteAtGoal)

-- what its sheet holds
abbrev pub one_sheet : Book
one_sheet = record { carriers = carrier 6 6 ∷ []; stops = stop 0 6 ∷ []; precedences = [] }

-- first calls: a place that is too high, a carrier that is not there, and the highest place
abbrev pub first_calls : History Event
first_calls =
    opening
    ▹ entered (enter_carrier 4096 1) (Err PlaceTooHigh)
    ▹ entered (enter_stop 0 1) (Err NoCarrier)
    ▹ entered (enter_carrier 4095 4095) (Ok 0)

-- what they leave: the one carrier that was accepted
abbrev pub first_sheet : Book
first_sheet = record { carriers = carrier 4095 4095 ∷ []; stops = stop 0 4095 ∷ []; precedences = [] }

-- a grid by its rows and columns and the travel times along a row and along a column
abbrev pub grid : ℕ → ℕ → ℕ → ℕ → Plan
grid rows columns along across = record { rows = rows; columns = columns; along = along; across = across }

-- one row of three cells, two ticks apart: with none closed, and with the middle one closed by the word 2, when no lane is left
pub record LittleGrid : Type 0 where
  pub lawful : MayBeSetOut (grid 1 3 2 1) (0 ∷ [])
  pub there : grid_time (grid 1 3 2 1) (0 ∷ []) 0 1 ≡ Some 2
  pub back : grid_time (grid 1 3 2 1) (0 ∷ []) 1 0 ≡ Some 2
  pub on : grid_time (grid 1 3 2 1) (0 ∷ []) 1 2 ≡ Some 2
  pub back_again : grid_time (grid 1 3 2 1) (0 ∷ []) 2 1 ≡ Some 2
  pub not_past : grid_time (grid 1 3 2 1) (0 ∷ []) 0 2 ≡ None
  pub closed_lawful : MayBeSetOut (grid 1 3 2 1) (2 ∷ [])
  pub closed_none : (from to : ℕ) → grid_time (grid 1 3 2 1) (2 ∷ []) from to ≡ None

-- two rows of three cells, 4 ticks apart along a row and 7 along a column; the end of a row does not touch the next row
pub record TwoRows : Type 0 where
  pub lawful : MayBeSetOut (grid 2 3 4 7) (0 ∷ [])
  pub along : grid_time (grid 2 3 4 7) (0 ∷ []) 1 2 ≡ Some 4
  pub across : grid_time (grid 2 3 4 7) (0 ∷ []) 1 4 ≡ Some 7
  pub across_back : grid_time (grid 2 3 4 7) (0 ∷ []) 4 1 ≡ Some 7
  pub not_round_the_end : grid_time (grid 2 3 4 7) (0 ∷ []) 2 3 ≡ None
  pub not_aslant : grid_time (grid 2 3 4 7) (0 ∷ []) 0 4 ≡ None

-- lists of lanes that are laid, and lists that are refused, each for its first fault
pub record ListsOfLanes : Type 0 where
  pub both_ways : MayBeLaid (lane 0 1 1 ∷ lane 1 0 36000 ∷ [])
  pub no_time : Refused (lane 0 1 0 ∷ []) (BadLane 0)
  pub too_long : Refused (lane 0 1 36001 ∷ []) (BadLane 0)
  pub too_high : Refused (lane 0 4096 5 ∷ []) (BadLane 0)
  pub highest : MayBeLaid (lane 0 4095 5 ∷ [])
  pub to_itself : Refused (lane 0 1 5 ∷ lane 3 3 5 ∷ []) (BadLane 1)
  pub twice : Refused (lane 0 1 5 ∷ lane 0 1 6 ∷ []) (NotRising 1)
  pub falling : Refused (lane 1 0 5 ∷ lane 0 1 5 ∷ []) (NotRising 1)
  pub falling_first : Refused (lane 1 0 5 ∷ lane 0 1 5 ∷ lane 2 2 5 ∷ []) (NotRising 1)
  pub bad_first : Refused (lane 1 0 5 ∷ lane 0 0 5 ∷ []) (BadLane 1)

-- all of them
pub record Examples : Type 0 where
  -- which lists of lanes are laid
  pub lists_of_lanes : ListsOfLanes
  -- the two yards' lists of lanes may be laid as they stand
  pub P_laid : MayBeLaid lanes_of_P
  pub triangle_laid : MayBeLaid triangle_lanes
  -- the sheet S, call by call and judging by judging
  pub S_judged : (gap : Gaps) (largest : ℕ) → Lawful (turns_S gap largest) S_turned
  pub S_lags : LagsOfS
  pub S_head_on : HeadOnApart
  -- the triangle; the lags of its ring add up to 3 under full lane and to 0 under lane less one
  pub triangle_judged : Lawful judges_triangle triangle_sheet
  pub lags_full_lane : AreTheLags (full_lane triangle) triangle_sheet (lags_of_triangle (pos 1))
  pub lags_lane_less_one : AreTheLags (lane_less_one triangle) triangle_sheet (lags_of_triangle (pos 0))
  pub ring_sum_full_lane : Way (LagIn (full_lane triangle) triangle_sheet) 3 (3 ∷ 5 ∷ 4 ∷ []) 3 (pos 3)
  pub ring_sum_lane_less_one : Way (LagIn (lane_less_one triangle) triangle_sheet) 3 (3 ∷ 5 ∷ 4 ∷ []) 3 (pos 0)
  -- in every yard, whose travel times are at least 1, and under every rule: the empty sheet passes with no arrivals, and a carrier that stays is there at 0
  -- and is refused every further stop
  pub nobody : (y : Setting) → Positive y.lanes → Lawful (opening ▹ judged y 0 (Some (passes []))) opened
  pub one_that_stays : (y : Setting) (u : ℕ) → Positive y.lanes → u ≤ 4095 → Lawful (judges_one y u) one_sheet
  -- first calls
  pub firsts : Lawful first_calls first_sheet
  -- grids
  pub little_grid : LittleGrid
  pub two_rows : TwoRows
