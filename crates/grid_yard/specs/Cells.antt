-- The cells of a grid and the lanes between them.
use Rattle.std.specs.Prelude.{◌≡◌, ℕ, ◌+◌, ◌*◌, ◌/◌, ◌%◌, ◌^◌, ◌<◌, ◌⊎◌, ◌↔◌, List, Some, Option, ◌≢◌, slice_index}
use Rattle.grid_yard.specs.declared.plan.Plan.{Plan}

-- bit k of a word, counted from the lowest, the bit of value 1
abbrev pub bit : ℕ → ℕ → ℕ
bit word k = word / 2 ^ k % 2

-- bit c % 64 of word c / 64, the bit of cell c
abbrev pub bit_of : List ℕ → ℕ → ℕ
bit_of words c = bit (slice_index words (c / 64)) (c % 64)

-- the two numbers differ by one
abbrev pub Adjacent : ℕ → ℕ → Type 0
Adjacent a b = (a + 1 ≡ b) ⊎ (b + 1 ≡ a)

module _ (g : Plan) where
  -- row and column of a cell, whose number is row × columns + column
  abbrev pub row_of : ℕ → ℕ
  row_of c = c / g.columns

  abbrev pub column_of : ℕ → ℕ
  column_of c = c % g.columns

  -- the cells touch by a side within a row
  abbrev pub InRow : ℕ → ℕ → Type 0
  InRow a b = (row_of a ≡ row_of b) × Adjacent (column_of a) (column_of b)

  -- the cells touch by a side within a column
  abbrev pub InColumn : ℕ → ℕ → Type 0
  InColumn a b = (column_of a ≡ column_of b) × Adjacent (row_of a) (row_of b)

-- a grid is its plan and the words whose bits close cells
module _ (g : Plan) (words : List ℕ) where
  -- the cell is on the grid and not closed
  abbrev pub Open : ℕ → Type 0
  Open c = (c < g.rows * g.columns) × (bit_of words c ≢ 1)

  -- open cells that touch by a side are joined by a lane, of the travel time along a row or of that along a column
  abbrev pub Joined : ℕ → ℕ → ℕ → Type 0
  Joined a b time = Open a × Open b × ((InRow g a b × (time ≡ g.along)) ⊎ (InColumn g a b × (time ≡ g.across)))

  -- these lanes are those of the grid: each that it joins cells by, and no other
  abbrev pub LanesOf : (ℕ → ℕ → Option ℕ) → Type 0
  LanesOf lanes = (a b time : ℕ) → ((lanes a b ≡ Some time) ↔ Joined a b time)
