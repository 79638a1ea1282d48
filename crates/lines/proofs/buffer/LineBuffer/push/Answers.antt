use Rattle.std.proofs.Common.{◌≡◌, ℕ, ◌<◌, List, [], ◌∷◌, ◌++◌, length, take, arith, rules}
use Rattle.std.proofs.lemmas.Grind.{common_steps}
use Rattle.lines.proofs.buffer.LineBuffer.push.Goals as goal

-- one more byte is kept while there is room for n
more : (n : ℕ) (before after : List ℕ) (byte : ℕ) → length before < n → after ≡ before ++ byte ∷ [] → after ≡ take n (before ++ byte ∷ [])
more n before after byte h e = grind (arith, common_steps)

-- past the room no byte is kept
full : (n : ℕ) (before : List ℕ) (byte : ℕ) → length before ≡ n → before ≡ take n (before ++ byte ∷ [])
full n before byte h = grind (arith, common_steps)

whole : (n : ℕ) (before after line : List ℕ) (byte : ℕ) → after ≡ take n (before ++ byte ∷ []) → before ≡ take n line → after ≡ take n (line ++ byte ∷ [])
whole n before after line byte next keeps = grind (arith, common_steps)

pub returns-then-not-is_full : goal.returns-then-not-is_full
returns-then-not-is_full c =
    let kept = c.args.self.now.bytes.items in
    let next = more 65 kept _ c.args.byte (search rules) (grind (arith, common_steps)) in
    record { next = next; whole = λ line. whole 65 kept _ line c.args.byte next }

pub returns-else-not-is_full : goal.returns-else-not-is_full
returns-else-not-is_full c =
    let kept = c.args.self.now.bytes.items in
    let next = full 65 kept c.args.byte (search rules) in
    record { next = next; whole = λ line. whole 65 kept _ line c.args.byte next }
