use Rattle.std.proofs.Common.{◌≡◌, ℕ, zero, suc, ◌*◌, ◌/◌, List, [], ◌∷◌, length, map, slice_index, refl, ap, arith, rules}
use Rattle.std.specs.Simd.{first_chunks}
use Rattle.std.proofs.lemmas.List.{take_all}
use Rattle.lines.specs.Digits.{byte, line_bytes}
use Rattle.lines.proofs.digits.decode.Goals as goal

-- the bytes of a line are those of its pairs of digits
pairs : (n : ℕ) (line : List ℕ) → length line ≡ 2 * n → map (λ pair. byte (slice_index pair 0) (slice_index pair 1)) (first_chunks 2 n line) ≡ line_bytes line
pairs zero [] h = refl
pairs zero (a ∷ line) h = absurd (omega arith)
pairs (suc n) [] h = absurd (omega arith)
pairs (suc n) (a ∷ []) h = absurd (omega arith)
pairs (suc n) (a ∷ b ∷ line) h = ap (λ (bytes : List ℕ). byte a b ∷ bytes) (pairs n line (omega arith))

pub returns : goal.returns
returns c =
    let line = c.args.line.now in
    let t = take_all c.loop-high.high-index c.as_chunks.result.0.now (search rules) in
    let p = pairs (length line / 2) line (omega arith) in
    cc
