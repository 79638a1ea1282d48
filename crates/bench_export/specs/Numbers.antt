-- What the lists of numbers stand for that a program in C hands over.
use Rattle.std.specs.Prelude.{ℕ, ◌/◌, min, cond, List, length, map, ◌==◌, slice_index}
use Rattle.std.specs.Simd.{first_chunks}
use Rattle.lane_yard.specs.declared.lane.Lane.{Lane}
use Rattle.lane_yard.specs.Records.{lane}
use Rattle.sheet.specs.Calls.{Call, enter_carrier, enter_stop, enter_precedence, strike_precedence}

-- the lane of three numbers: from, to, travel time
abbrev pub lane_of : List ℕ → Lane
lane_of three = lane (slice_index three 0) (slice_index three 1) (slice_index three 2)

-- lanes by threes; one or two numbers at the end stand for nothing
abbrev pub lanes_in : List ℕ → List Lane
lanes_in numbers = map lane_of (first_chunks 3 (length numbers / 3) numbers)

-- a carrier by its number; one above 255 stands for 255, a number that no carrier has
abbrev pub carrier_of : ℕ → ℕ
carrier_of number = min number 255

-- the call of a kind and the fields of its line; every kind but 1, 2 and 3 strikes a precedence
abbrev pub call_of : (kind first second third : ℕ) → Call
call_of kind first second third =
    cond (kind == 1) (enter_carrier first second)
    (cond (kind == 2) (enter_stop (carrier_of first) second)
    (cond (kind == 3) (enter_precedence (carrier_of first) (carrier_of second) third)
    (strike_precedence (carrier_of first) (carrier_of second) third)))

-- the call of four numbers: the kind, then the fields
abbrev pub call_in : List ℕ → Call
call_in four = call_of (slice_index four 0) (slice_index four 1) (slice_index four 2) (slice_index four 3)

-- calls by fours; up to three numbers at the end stand for nothing
abbrev pub calls_in : List ℕ → List Call
calls_in numbers = map call_in (first_chunks 4 (length numbers / 4) numbers)
