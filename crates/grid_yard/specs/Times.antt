-- The tests on cells that the code makes, and the travel time that they give.
use Rattle.std.specs.Prelude.{ℕ, ◌+◌, ◌*◌, Bool, cond, not, ◌&&◌, ◌||◌, List, Some, None, Option, ◌==◌, nat_lt}
use Rattle.grid_yard.specs.declared.plan.Plan.{Plan}
use Rattle.grid_yard.specs.Cells.{bit, bit_of, row_of, column_of}

abbrev pub set_bit : ℕ → ℕ → Bool
set_bit word k = bit word k == 1

abbrev pub closed_cell : List ℕ → ℕ → Bool
closed_cell words c = bit_of words c == 1

abbrev pub adjacent : ℕ → ℕ → Bool
adjacent a b = a + 1 == b || b + 1 == a

module _ (g : Plan) where
  abbrev pub in_row : ℕ → ℕ → Bool
  in_row a b = row_of g a == row_of g b && adjacent (column_of g a) (column_of g b)

  abbrev pub in_column : ℕ → ℕ → Bool
  in_column a b = column_of g a == column_of g b && adjacent (row_of g a) (row_of g b)

  -- the travel time between cells that touch
  abbrev pub step : ℕ → ℕ → Option ℕ
  step a b = cond (in_row a b) (Some g.along) (cond (in_column a b) (Some g.across) None)

module _ (g : Plan) (words : List ℕ) where
  abbrev pub open_cell : ℕ → Bool
  open_cell c = nat_lt c (g.rows * g.columns) && not (closed_cell words c)

  -- the travel time of the lane between two cells, where there is one
  abbrev pub time_of : ℕ → ℕ → Option ℕ
  time_of a b = cond (open_cell a && open_cell b) (step g a b) None
