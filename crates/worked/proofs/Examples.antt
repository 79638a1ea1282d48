-- The worked examples come out.
use Rattle.std.specs.List.{Contains}
use Rattle.std.proofs.Common.{ℕ, ◌+◌, ◌≤◌, Bool, cond, [], ◌∷◌, pos, ◌+ℤ◌, ◌-ℤ◌, Some, Ok, Err, refl, ap, arith, rules, lit<, lit≤}
use Rattle.std.proofs.lemmas.Bool.{le-ltb}
use Rattle.sheet.specs.declared.refusal.EntryRefusal.TheVariants.{RouteAtGoal, PlaceTooHigh}
use Rattle.sheet.specs.Book.{opened}
use Rattle.sheet.specs.Calls.{enter_carrier, enter_stop}
use Rattle.sheet.specs.Histories.{History, opening, ◌▹◌}
use Rattle.lags.specs.Ways.{Way}
use Rattle.lags.specs.Ways.Way.{last, more}
use Rattle.plan.specs.Lags.{wait}
use Rattle.plan.specs.Plans.{Gaps, Leg, head_on as meet_head_on}
use Rattle.plan.specs.Theorems.{Positive}
use Rattle.judge.specs.Findings.{Setting, passes}
use Rattle.judge.specs.FindingHistories.{Event, entered, judged, Lawful}
use Rattle.worked.specs.Examples.{LagIn, under, full_lane, lane_less_one, fixed_gap, lanes_of_P, P, precedence, S, S_with, S_turned, judges_S, turns_S, LagsOfS, HeadOnApart, triangle_lanes, triangle, judges_triangle, triangle_sheet, judges_one, one_sheet, first_calls, first_sheet, LittleGrid, TwoRows, ListsOfLanes, Examples}
use Rattle.worked.proofs.Steps.{ALeg, IsLeg, legs, exactly_legs}
use Rattle.worked.proofs.Entries.{left}
use Rattle.worked.proofs.Histories.{Conclusions, lawful}
use Rattle.worked.proofs.Conclusions.{the_lags, kept, finds_undecided, finds_head_on, finds_ring, finds_passes}
use Rattle.worked.proofs.Yards as yards

P_positive : Positive P
P_positive = yards.positive lanes_of_P refl

triangle_positive : Positive triangle
triangle_positive = yards.positive triangle_lanes refl

-- the sheet S under the four rules
S_passes : Conclusions judges_S
S_passes =
    let full = finds_passes (full_lane P) S P_positive refl refl _ refl refl in
    let less_one = finds_passes (lane_less_one P) S P_positive refl refl _ refl refl in
    let gap_0 = finds_passes (fixed_gap 0 P) S P_positive refl refl _ refl refl in
    let gap_1 = finds_passes (fixed_gap 1 P) S P_positive refl refl _ refl refl in
    ((((tt, (lit≤ tt, full)), (lit≤ tt, less_one)), (lit≤ tt, gap_0)), (lit≤ tt, gap_1))

-- and with its second precedence struck and turned, under every rule
S_judged : (gap : Gaps) (largest : ℕ) → Lawful (turns_S gap largest) S_turned
S_judged gap largest =
    let y = under gap largest P in
    lawful (turns_S gap largest) S_turned refl refl
    ((S_passes, (lit≤ tt, finds_undecided y (S_with (precedence 1 0 2 ∷ [])) 2 5 refl refl)), (lit≤ tt, finds_head_on y S_turned P_positive refl 1 2 refl))

S_lags : LagsOfS
S_lags = search (rules, the_lags)

-- carrier 0's leg from place 1 to place 2, and carrier 1's back
there : Leg P S_turned 0 2 1 3 2 2
there = (exactly_legs S_turned P).each (record { c = 0; s = 2; u = 1; t = 3; v = 2 }, 2) (2, lit< tt, refl)

back : Leg P S_turned 1 1 2 5 1 2
back = (exactly_legs S_turned P).each (record { c = 1; s = 1; u = 2; t = 5; v = 1 }, 2) (1, lit< tt, refl)

-- the ring of what carrier 1 waits for carrier 0 at place 1, and of what carrier 0 waits for carrier 1 at place 2
S_ring : (gap : Gaps) (largest : ℕ) → Way (LagIn (under gap largest P) S_turned) 3 (3 ∷ 5 ∷ []) 3 ((pos (gap 1 2 2 + 1) -ℤ pos 2) +ℤ (pos (gap 2 1 2 + 1) -ℤ pos 2))
S_ring gap largest = more (wait 1 refl there refl) (last (wait 0 refl back refl))

head_on_apart : HeadOnApart
head_on_apart = record {
  sum_full_lane = S_ring (full_lane P).gap 36000;
  sum_lane_less_one = S_ring (lane_less_one P).gap 35999;
  sum_fixed_gap_0 = S_ring (fixed_gap 0 P).gap 36000;
  sum_fixed_gap_1 = S_ring (fixed_gap 1 P).gap 36000;
  kept = kept (lane_less_one P) S_turned (0 ∷ 0 ∷ 3 ∷ 5 ∷ 9 ∷ 5 ∷ 10 ∷ []) refl;
  conflict = meet_head_on 0 1 2 1 3 2 2 1 5 2 4 (λ e. omega arith) there back (lit< tt) (lit≤ tt) (lit< tt) (lit≤ tt);
}

-- the ring of what each carrier waits for the next
triangle_ring : (gap : Gaps) (largest : ℕ) → Way (LagIn (under gap largest triangle) triangle_sheet) 3 (3 ∷ 5 ∷ 4 ∷ []) 3 ((pos (gap 0 1 1 + 1) -ℤ pos 1) +ℤ ((pos (gap 2 0 1 + 1) -ℤ pos 1) +ℤ (pos (gap 1 2 1 + 1) -ℤ pos 1)))
triangle_ring gap largest =
    let goes : (l : ALeg) → Contains (legs triangle_sheet triangle) l → IsLeg triangle_sheet triangle l = (exactly_legs triangle_sheet triangle).each in
    let first = goes (record { c = 0; s = 0; u = 0; t = 3; v = 1 }, 1) (0, lit< tt, refl) in
    let second = goes (record { c = 1; s = 1; u = 1; t = 4; v = 2 }, 1) (1, lit< tt, refl) in
    let third = goes (record { c = 2; s = 2; u = 2; t = 5; v = 0 }, 1) (2, lit< tt, refl) in
    more (wait 2 refl first refl) (more (wait 1 refl third refl) (last (wait 0 refl second refl)))

triangle_judged : Lawful judges_triangle triangle_sheet
triangle_judged =
    let ring = finds_ring (full_lane triangle) triangle_sheet triangle_positive refl refl 3 (5 ∷ 4 ∷ []) (pos 3) (triangle_ring (full_lane triangle).gap 36000) refl refl in
    let passes = finds_passes (lane_less_one triangle) triangle_sheet triangle_positive refl refl _ refl refl in
    lawful judges_triangle triangle_sheet refl refl ((tt, (lit≤ tt, ring)), (lit≤ tt, passes))

module _ (y : Setting) (positive : Positive y.lanes) where
  nobody : Lawful (opening ▹ judged y 0 (Some (passes []))) opened
  nobody = search (rules, lawful, positive, finds_passes)

  -- the refused stop: its place is not too high
  one_that_stays : (u : ℕ) → u ≤ 4095 → Lawful (judges_one y u) one_sheet
  one_that_stays u h =
      let so : History Event = opening ▹ entered (enter_carrier 6 6) (Ok 0) ▹ judged y 1 (Some (passes (0 ∷ []))) in
      let low = le-ltb 4095 u h in
      lawful (judges_one y u) one_sheet
      (ap (λ (t : Bool). so ▹ entered (enter_stop 0 u) (cond t (Err PlaceTooHigh) (Err RouteAtGoal))) low)
      (ap (λ (t : Bool). left one_sheet (enter_stop 0 u) (cond t (Err PlaceTooHigh) (Err RouteAtGoal))) low)
      (tt, (lit≤ tt, finds_passes y one_sheet positive refl refl (0 ∷ []) refl refl))

firsts : Lawful first_calls first_sheet
firsts = search (rules, lawful)

little_grid : LittleGrid
little_grid = search (rules, yards.laneless)

two_rows : TwoRows
two_rows = search rules

lists_of_lanes : ListsOfLanes
lists_of_lanes = search (rules, yards.lawful, yards.fault)

pub examples : Examples
examples =
    let full_lane_sum : Way (LagIn (full_lane triangle) triangle_sheet) 3 (3 ∷ 5 ∷ 4 ∷ []) 3 (pos 3) = triangle_ring (full_lane triangle).gap 36000 in
    let less_one_sum : Way (LagIn (lane_less_one triangle) triangle_sheet) 3 (3 ∷ 5 ∷ 4 ∷ []) 3 (pos 0) = triangle_ring (lane_less_one triangle).gap 35999 in
    search (rules, lists_of_lanes, yards.lawful, S_judged, S_lags, head_on_apart, triangle_judged, the_lags, full_lane_sum, less_one_sum, nobody, one_that_stays, firsts, little_grid, two_rows)
