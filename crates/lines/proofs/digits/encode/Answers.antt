use Rattle.std.proofs.Common.{◌≡◌, ℕ, ◌+◌, ◌*◌, ◌/◌, ◌%◌, ◌<◌, List, [], ◌∷◌, ◌++◌, length, get_or, take, drop, set, refl, arith, rules}
use Rattle.std.proofs.lemmas.List.{drop_more, take_more, append_assoc, length-take-le, take_all}
use Rattle.lines.specs.Digits.{digit_for, digits}
use Rattle.lines.proofs.Hexadecimal.{length_digits, digits_append}
use Rattle.lines.proofs.digits.encode.Goals as goal

-- two neighbours are set
set_pair : (p : List ℕ) (x y : ℕ) (z : List ℕ) (h l n : ℕ) → length p ≡ n → set (set (p ++ x ∷ y ∷ z) n h) (n + 1) l ≡ p ++ h ∷ l ∷ z
set_pair [] x y z h l n e = grind arith
set_pair (q ∷ p) x y z h l n e = grind (arith, set_pair p x y z h l (length p) refl)

-- one more byte
step : (bs page : List ℕ) (i : ℕ) → i < length bs → 2 * i + 1 < length page → set (set (digits (take i bs) ++ drop (2 * i) page) (2 * i) (digit_for (get_or bs i 0 / 16))) (2 * i + 1) (digit_for (get_or bs i 0 % 16)) ≡ digits (take (i + 1) bs) ++ drop (2 * (i + 1)) page
step bs page i h k =
    let b = get_or bs i 0 in
    let p = digits (take i bs) in
    let d = drop_more page (2 * i) 0 (omega arith) in
    let d' = drop_more page (2 * i + 1) 0 k in
    let n : length p ≡ 2 * i = omega (arith, length_digits (take i bs), length-take-le i bs (omega arith)) in
    let s = set_pair p (get_or page (2 * i) 0) (get_or page (2 * i + 1) 0) (drop (2 * i + 1 + 1) page) (digit_for (b / 16)) (digit_for (b % 16)) (2 * i) n in
    grind (arith, digits_append (take i bs) (b ∷ []), take_more bs i 0 h, append_assoc)

pub loop-i-preserved : goal.loop-i-preserved
loop-i-preserved c =
    let s = step c.args.bytes.now c.args.part.now c.loop-i.i (search rules) (search rules) in
    cc

pub returns : goal.returns
returns c =
    let t = take_all c.loop-i.i c.args.bytes.now (search rules) in
    grind arith
