-- The lags of a sheet, as judging gathers them from its tables.
use Rattle.std.specs.Prelude.{◌≡◌, ℕ, ◌+◌, ◌<◌, ◌⊎◌, ◌↔◌, List, length, ℤ, pos, ◌-ℤ◌, Some, slice_index_or}
use Rattle.std.specs.List.{Contains}
use Rattle.sheet.specs.declared.records.Precedence.{Precedence}
use Rattle.sheet.specs.declared.records.Stop.{Stop}
use Rattle.sheet.specs.Records.{no_precedence, no_stop}
use Rattle.lags.specs.declared.Lag.{Lag}
use Rattle.judge.specs.declared.legs.Leg.{Leg}
use Rattle.judge.specs.Legs.{NextsInside, Stepped, Timely, next_after, time_to}
use Rattle.judge.specs.Routes.{Consistent}

-- the lag of the step to stop t from the stop before it
pub record Travel (stops : List Stop) (legs : List Leg) (n : ℕ) (g : Lag) : Type 0 where
  pub within : g.to < n
  pub step : (slice_index_or stops g.to no_stop).previous ≡ Some g.from
  pub weighs : g.weight ≡ pos (time_to legs g.to)

-- the lag of a precedence: from the first carrier's next stop to the second carrier's stop
pub record Waiting (gap : ℕ → ℕ → ℕ → ℕ) (stops : List Stop) (legs : List Leg) (p : Precedence) (g : Lag) : Type 0 where
  pub from_next : next_after legs p.first_stop ≡ Some g.from
  pub to_second : g.to ≡ p.second_stop
  pub weighs : g.weight ≡ (pos (gap p.place (slice_index_or stops g.from no_stop).place (time_to legs g.from) + 1) -ℤ pos (time_to legs g.from))

-- the lags are exactly those of which P holds
abbrev pub Lists : (Lag → Type 0) → List Lag → Type 0
Lists P lags = (g : Lag) → Contains lags g ↔ P g

-- a step to one of the stops below n, or the lag of one of the first m precedences
abbrev pub LagOf : (ℕ → ℕ → ℕ → ℕ) → List Stop → List Leg → List Precedence → ℕ → ℕ → Lag → Type 0
LagOf gap stops legs precedences n m g = Travel stops legs n g ⊎ ((k : ℕ) × (k < m) × Waiting gap stops legs (slice_index_or precedences k no_precedence) g)

-- the table of legs fits the lists of a sheet
pub record Ready (stops : List Stop) (precedences : List Precedence) (legs : List Leg) : Type 0 where
  pub consistent : Consistent stops precedences
  pub one_each : length legs ≡ length stops
  pub inside : NextsInside legs
  pub stepped : Stepped stops legs
  pub timely : Timely legs

-- a lag from one stop to another
abbrev pub Between : (ℕ → ℕ → ℕ → ℕ) → List Stop → List Leg → List Precedence → ℕ → ℕ → ℤ → Type 0
Between gap stops legs precedences s t w = LagOf gap stops legs precedences (length stops) (length precedences) (record { from = s; to = t; weight = w })
