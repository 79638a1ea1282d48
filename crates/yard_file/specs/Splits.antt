-- An input by the lines that have ended and the bytes of the one that has begun.
use Rattle.std.specs.Prelude.{◌≡◌, ℕ, List, [], ◌∷◌, ◌++◌, ◌≢◌, All}

-- no byte is a newline
abbrev pub NoNewline : List ℕ → Type 0
NoNewline bs = All (λ b. b ≢ 10) bs

-- each ended line with its newline, and then the line that has begun
abbrev pub joined : List (List ℕ) → List ℕ → List ℕ
joined [] begun = begun
joined (line ∷ lines) begun = line ++ 10 ∷ joined lines begun

-- an input, taken apart
pub record Split (bytes : List ℕ) (ended : List (List ℕ)) (begun : List ℕ) : Type 0 where
  pub whole : bytes ≡ joined ended begun
  pub each : All NoNewline ended
  pub rest : NoNewline begun
