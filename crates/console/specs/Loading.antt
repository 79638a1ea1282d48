-- What comes of the file of the yard.
use Rattle.std.specs.Prelude.{◌≡◌, ℕ, ◌⊎◌, List, [], IfOk, Result}
use Rattle.std.specs.Io.KnownBytes.{Consumes, IsAtEnd}
use Rattle.lane_yard.specs.declared.yards.LaneYard.{LaneYard}
use Rattle.yard_file.specs.Files.{HasRead}
use Rattle.yard_file.specs.Laying.{FileLaid as LinesLaid}
use Rattle.yard_file.specs.Lines.{lines_of}
use Rattle.yard_file.specs.declared.files.YardFile.{YardFile}
use Rattle.yard_file.specs.declared.refusal.FileRefusal.{FileRefusal}
use Rattle.console.specs.Taking.{Known}

-- these are all bytes that the file has left, or none, where it could not be read to its end
abbrev pub AllOrNone : {F E : Type 0} → (F → Known) → Result F E → List ℕ → Type 0
AllOrNone remaining file bytes = (bytes ≡ []) ⊎ IfOk file (λ f. (left : Known) × Consumes (remaining f) left bytes × IsAtEnd left)

-- the bytes that have been read of a file
pub record WholeOrNone {F E : Type 0} (remaining : F → Known) (file : Result F E) (read : YardFile) : Type 0 where
  pub bytes : List ℕ
  pub all : AllOrNone remaining file bytes
  pub has_read : HasRead read bytes

-- the lines of a file are laid, or it is refused
pub record FileLaid {F E : Type 0} (remaining : F → Known) (file : Result F E) (yard yard' : LaneYard) (laid : Result (Unit {0}) FileRefusal) : Type 0 where
  pub bytes : List ℕ
  pub all : AllOrNone remaining file bytes
  pub outcome : LinesLaid (lines_of bytes) yard yard' laid

-- the lines of some file are laid, or it is refused
abbrev pub SomeLinesLaid : LaneYard → LaneYard → Result (Unit {0}) FileRefusal → Type 0
SomeLinesLaid yard yard' laid = (bytes : List ℕ) × LinesLaid (lines_of bytes) yard yard' laid
