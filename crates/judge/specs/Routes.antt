-- The lists of a sheet that judging reads.
use Rattle.std.specs.Prelude.{◌≤◌, List, length}
use Rattle.sheet.specs.declared.records.Precedence.{Precedence}
use Rattle.sheet.specs.declared.records.Stop.{Stop}
use Rattle.sheet.specs.Tables.{Linked, PrecedencesInside, StopsInside}

-- the lists of a sheet fit together: each number in a record is that of a record, and the limits are kept
pub record Consistent (stops : List Stop) (precedences : List Precedence) : Type 0 where
  pub few : length stops ≤ 1024
  pub few_precedences : length precedences ≤ 2048
  pub linked : Linked stops
  pub carried : StopsInside 64 stops
  pub lawful : PrecedencesInside 64 (length stops) precedences
