-- The lines of an input that is taken apart, byte by byte.
use Rattle.std.proofs.Common.{◌≡◌, ◌≢◌, ℕ, All, arith, rules, List, [], ◌∷◌, ◌++◌, refl, ap, ◌∙◌}
use Rattle.std.proofs.lemmas.List.Elements.{All-head, All-tail, All-push}
use Rattle.std.proofs.lemmas.List.{append_assoc}
use Rattle.std.proofs.lemmas.Bool.Decides.{nat_tests}
use Rattle.yard_file.specs.Lines.{lines_of}
use Rattle.yard_file.specs.Splits.{NoNewline, Split, joined}

-- the line that has begun, if it has a byte
abbrev last_line : List ℕ → List (List ℕ)
last_line [] = []
last_line (b ∷ bs) = (b ∷ bs) ∷ []

ended_line : (line rest : List ℕ) → NoNewline line → lines_of (line ++ 10 ∷ rest) ≡ line ∷ lines_of rest
ended_line [] rest no_newline = refl
ended_line (b ∷ bs) rest no_newline =
    let each = All-head (λ b. b ≢ 10) b bs no_newline in
    let later = ended_line bs rest (All-tail (λ b. b ≢ 10) b bs no_newline) in
    grind (arith, nat_tests)

begun_line : (line : List ℕ) → NoNewline line → lines_of line ≡ last_line line
begun_line [] no_newline = refl
begun_line (b ∷ []) no_newline =
    let each = All-head (λ b. b ≢ 10) b [] no_newline in
    grind (arith, nat_tests)
begun_line (b ∷ d ∷ bs) no_newline =
    let each = All-head (λ b. b ≢ 10) b (d ∷ bs) no_newline in
    let later = begun_line (d ∷ bs) (All-tail (λ b. b ≢ 10) b (d ∷ bs) no_newline) in
    grind (arith, nat_tests)

joined_lines : (ended : List (List ℕ)) (begun : List ℕ) → All NoNewline ended → NoNewline begun → lines_of (joined ended begun) ≡ ended ++ last_line begun
joined_lines [] begun each rest = begun_line begun rest
joined_lines (line ∷ lines) begun each rest =
    ended_line line (joined lines begun) (All-head NoNewline line lines each)
    ∙ ap (λ (ls : List (List ℕ)). line ∷ ls) (joined_lines lines begun (All-tail NoNewline line lines each) rest)

-- the lines are those that have ended and then the one that has begun
pub split_lines : (bytes : List ℕ) (ended : List (List ℕ)) (begun : List ℕ) → Split bytes ended begun → lines_of bytes ≡ ended ++ last_line begun
split_lines bytes ended begun s = ap lines_of s.whole ∙ joined_lines ended begun s.each s.rest

joined_more : (ended : List (List ℕ)) (begun : List ℕ) (b : ℕ) → joined ended begun ++ b ∷ [] ≡ joined ended (begun ++ b ∷ [])
joined_more [] begun b = refl
joined_more (line ∷ lines) begun b = simp (append_assoc, joined_more lines begun b)

joined_end : (ended : List (List ℕ)) (begun : List ℕ) → joined ended begun ++ 10 ∷ [] ≡ joined (ended ++ begun ∷ []) []
joined_end [] begun = refl
joined_end (line ∷ lines) begun = simp (append_assoc, joined_end lines begun)

-- one more byte of the line that has begun
pub split_more : (bytes : List ℕ) (ended : List (List ℕ)) (begun : List ℕ) (b : ℕ) → b ≢ 10 → Split bytes ended begun → Split (bytes ++ b ∷ []) ended (begun ++ b ∷ [])
split_more bytes ended begun b ne s = record {
  whole = rw s.whole (joined_more ended begun b);
  each = s.each;
  rest = All-push (λ b. b ≢ 10) begun b s.rest ne;
}

-- a newline ends it
pub split_end : (bytes : List ℕ) (ended : List (List ℕ)) (begun : List ℕ) → Split bytes ended begun → Split (bytes ++ 10 ∷ []) (ended ++ begun ∷ []) []
split_end bytes ended begun s = record {
  whole = rw s.whole (joined_end ended begun);
  each = All-push NoNewline ended begun s.each s.rest;
  rest = search rules;
}
