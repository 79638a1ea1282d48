-- What is kept of a file that has been read so far.
use Rattle.std.specs.Prelude.{◌≡◌, ℕ, List, take}
use Rattle.lines.specs.Buffers.{Keeps}
use Rattle.yard_file.specs.Splits.{Split}
use Rattle.yard_file.specs.Laying.{first_refusal, lanes_said}
use Rattle.yard_file.specs.declared.files.YardFile.{YardFile}

-- the lanes and the first refusal of the lines that have ended
pub record Ended (file : YardFile) (ended : List (List ℕ)) : Type 0 where
  pub lanes : file.lanes ≡ take 8193 (lanes_said ended)
  pub refusal : file.refusal ≡ first_refusal ended

-- these bytes have been read
pub record HasRead (file : YardFile) (bytes : List ℕ) : Type 0 where
  pub ended : List (List ℕ)
  pub begun : List ℕ
  pub split : Split bytes ended begun
  pub kept : Ended file ended
  pub line : Keeps file.line begun
