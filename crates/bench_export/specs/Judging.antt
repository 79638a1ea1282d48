-- What comes of entering a sheet and judging it in a yard, over and over.
use Rattle.std.specs.Prelude.{◌≡◌, ℕ, zero, suc, ◌≤◌, ◌⊎◌, List, None, Ok, Err, Result}
use Rattle.bench_export.specs.declared.fault.Fault.{Fault}
use Rattle.bench_export.specs.declared.fault.Fault.TheVariants.{NoMemory, Lay, Grid, Entry, Judge}
use Rattle.bench_export.specs.Codes.{code_of}
use Rattle.bench_export.specs.Entering.{AllEntered, FirstRefused}
use Rattle.bench_export.specs.Rules.{setting_of}
use Rattle.grid_yard.specs.Cells as cells
use Rattle.grid_yard.specs.Faults as grid
use Rattle.grid_yard.specs.declared.plan.Plan.{Plan}
use Rattle.judge.specs.Findings.{Setting}
use Rattle.judge.specs.Judged.{judging_of}
use Rattle.judge.specs.JudgedFully.{JudgedFully}
use Rattle.judge.specs.Routing.{Untouched}
use Rattle.judge.specs.Settling.{Pages}
use Rattle.judge.specs.declared.refusal.JudgeRefusal.{JudgeRefusal}
use Rattle.lane_yard.specs.Faults as list
use Rattle.lane_yard.specs.Records as records
use Rattle.lane_yard.specs.declared.lane.Lane.{Lane}
use Rattle.plan.specs.Plans.{Lanes}
use Rattle.sheet.specs.Book.{Book, opened}
use Rattle.sheet.specs.Calls.{Call}
use Rattle.yard.specs.declared.rules.Rule.{Rule}

-- so many judgings, each with the pages that the one before left, and the answer of the last; no judging answers 0
abbrev pub JudgedOften : Setting → Book → ℕ → (timetable ring timetable' ring' : List ℕ) → Result ℕ JudgeRefusal → Type 0
JudgedOften y b zero t r t' r' answer = (answer ≡ Ok 0) × (t' ≡ t) × (r' ≡ r)
JudgedOften y b (suc n) t r t' r' answer =
    (t₀ r₀ : List ℕ) × (earlier : Result ℕ JudgeRefusal) × JudgedOften y b n t r t₀ r₀ earlier
    × JudgedFully (judging_of y.lanes y.gap y.largest t₀ r₀ t' r' answer) b

-- two pages before and after
abbrev pub pages : (timetable ring timetable' ring' : List ℕ) → Pages
pages t r t' r' = record { timetable = t; ring = r; timetable_after = t'; ring_after = r' }

module _ (y : Setting) (calls : List Call) (judgings : ℕ) (p : Pages) where
  -- all calls are entered on a new sheet, and the sheet is judged so often
  pub record Judges (answer : Result ℕ JudgeRefusal) : Type 0 where
    pub book : Book
    pub entered : AllEntered opened calls book
    pub judged : JudgedOften y book judgings p.timetable p.ring p.timetable_after p.ring_after answer

  -- what comes of it in a yard that stands: the last judging's answer, or the refusal of the first call that the sheet
  -- refuses, or there is no memory
  abbrev pub InYard : Result ℕ Fault → Type 0
  InYard (Ok stops) = Judges (Ok stops)
  InYard (Err NoMemory) = Untouched p
  InYard (Err (Lay why)) = ⊥
  InYard (Err (Grid why)) = ⊥
  InYard (Err (Entry why)) = FirstRefused opened calls why × Untouched p
  InYard (Err (Judge why)) = Judges (Err why)

-- these are the lanes of a list that is laid so many times; where it is never laid there are none
abbrev pub Laid : ℕ → List Lane → Lanes → Type 0
Laid zero xs lanes = (from to : ℕ) → lanes from to ≡ None
Laid (suc layings) xs lanes = list.Lawful xs × records.LanesOf xs lanes

-- why the list cannot be laid: its first fault, or there is no memory
abbrev pub NotLaid : ℕ → List Lane → Fault → Type 0
NotLaid layings xs NoMemory = Unit {0}
NotLaid layings xs (Lay why) = (1 ≤ layings) × list.Fault xs why
NotLaid layings xs (Grid why) = ⊥
NotLaid layings xs (Entry why) = ⊥
NotLaid layings xs (Judge why) = ⊥

-- these are the lanes of the grid
abbrev pub SetOut : Plan → List ℕ → Lanes → Type 0
SetOut plan closed lanes = grid.Lawful plan closed × cells.LanesOf plan closed lanes

-- why the grid cannot be set out: the first check that it fails, or there is no memory
abbrev pub NotSetOut : Plan → List ℕ → Fault → Type 0
NotSetOut plan closed NoMemory = Unit {0}
NotSetOut plan closed (Lay why) = ⊥
NotSetOut plan closed (Grid why) = grid.Fault plan closed why
NotSetOut plan closed (Entry why) = ⊥
NotSetOut plan closed (Judge why) = ⊥

module _ (Stands : Lanes → Type 0) (Fails : Fault → Type 0) (calls : List Call) (rule : Rule ℕ) (judgings : ℕ) (p : Pages) where
  -- the yard stands, and the sheet is entered and judged in it; or no yard can be had, and both pages stand
  abbrev pub Comes : Result ℕ Fault → Type 0
  Comes outcome =
      ((lanes : Lanes) × Stands lanes × InYard (setting_of lanes rule) calls judgings p outcome)
      ⊎ ((fault : Fault) × (outcome ≡ Err fault) × Fails fault × Untouched p)

  -- the code tells what comes of it
  pub record Tells (code : ℕ) : Type 0 where
    pub outcome : Result ℕ Fault
    pub comes : Comes outcome
    pub told : code ≡ code_of outcome
