-- What is done with the lines of an input.
use Rattle.std.specs.Prelude.{◌≡◌, ℕ, List, [], ◌∷◌, Option, map, take}
use Rattle.std.specs.Io.KnownBytes.{Keeps, Consumes, IsAtEnd}
use Rattle.lines.specs.Buffers.{Keeps as KeepsLine}
use Rattle.lines.specs.declared.buffer.LineBuffer.{LineBuffer}
use Rattle.yard_file.specs.Lines.{lines_of}
use Rattle.yard_file.specs.Splits.{Split}

-- the bytes that a reader has left, or that a writer holds, where they are known
abbrev pub Known : Type 0
Known = Option (List ℕ)

-- what a taker does with a line: the taker before, the line, what the writer holds before and after, the taker after
abbrev pub Takes : Type 0 → Type 1
Takes T = T → List ℕ → Known → Known → T → Type 0

-- of each line no byte past the 65th is given
abbrev pub given : List (List ℕ) → List (List ℕ)
given lines = map (λ line. take 65 line) lines

module _ {T : Type 0} (takes : Takes T) where
  -- the lines are taken one after another, and nothing else is written
  abbrev pub TakesInTurn : List (List ℕ) → T → Known → T → Known → Type 0
  TakesInTurn [] t held t' held' = (t' ≡ t) × Keeps held held'
  TakesInTurn (line ∷ lines) t held t' held' = (s : T) × (before : Known) × (after : Known) × Keeps held before × takes t line before after s × TakesInTurn lines s after t' held'

  -- so many bytes of the input have been seen: every line that has ended in them is taken, and the one that has begun is kept
  pub record HasTaken (bytes : List ℕ) (t : T) (held : Known) (line : LineBuffer) (t' : T) (held' : Known) : Type 0 where
    pub ended : List (List ℕ)
    pub begun : List ℕ
    pub split : Split bytes ended begun
    pub taken : TakesInTurn (given ended) t held t' held'
    pub kept : KeepsLine line begun

  -- the input is read to its end, and all its lines are taken
  pub record TakesAll (left left' : Known) (t : T) (held : Known) (t' : T) (held' : Known) : Type 0 where
    pub bytes : List ℕ
    pub read : Consumes left left' bytes
    pub ended : IsAtEnd left'
    pub taken : TakesInTurn (given (lines_of bytes)) t held t' held'
