-- A list that is reversed and then turned to begin at its lowest number.
use Rattle.std.proofs.Common.{◌≡◌, ℕ, ◌+◌, ◌<◌, ◌≤◌, List, [], ◌∷◌, ◌++◌, reverse, length, take, drop, sym, ap, ◌∙◌, arith}
use Rattle.std.specs.List.{All}
use Rattle.std.proofs.lemmas.List.{append_assoc, reverse-append, reverse-reverse, length-append, length-reverse, length-take-le, length-drop, take-append-drop, take_at, drop_more}
use Rattle.std.proofs.lemmas.List.Sorted.{All-permutation, IsPermutation-reverse}
use Rattle.lags.specs.Solved.{at}
use Rattle.lags.specs.Traced.{Turned}

-- as a list and its reverse are turned
reverse-turned : (ys : List ℕ) (k : ℕ) → k < length ys → All (λ x. at ys k ≤ x) ys → Turned (reverse ys) (drop k ys ++ take k ys)
reverse-turned ys k l h =
    let front = drop (k + 1) ys in
    let rest = take k ys in
    let from : drop k ys ≡ at ys k ∷ front = drop_more ys k 0 l in
    let parts : ys ≡ rest ++ (at ys k ∷ front) = sym (take-append-drop k ys) ∙ ap (λ (r : List ℕ). rest ++ r) from in
    record {
      front = reverse front;
      low = at ys k;
      rest = reverse rest;
      splits =
          ap reverse parts ∙ reverse-append rest (at ys k ∷ front) ∙ ap (λ (r : List ℕ). r ++ reverse rest) (reverse-append (at ys k ∷ []) front)
          ∙ append_assoc (reverse front) (at ys k ∷ []) (reverse rest);
      turns =
          ap (λ (r : List ℕ). r ++ rest) from
          ∙ ap (λ (r : List ℕ). at ys k ∷ r) (sym (reverse-append (reverse rest) (reverse front) ∙ rw (reverse-reverse front, reverse-reverse rest)));
      least = All-permutation (λ x. at ys k ≤ x) ys (reverse ys) (IsPermutation-reverse ys) h;
    }

-- the page's front after each step: a copy, reversed, and turned to the place k
pub turned : (xs page copied reversed around : List ℕ) (k : ℕ) → copied ≡ xs → reversed ≡ reverse copied → k < length reversed → All (λ x. at reversed k ≤ x) reversed
    → around ≡ drop k reversed ++ take k reversed → Turned xs (take (length xs) (around ++ drop (length xs) page))
turned xs page copied reversed around k c r l h t =
    let back : reverse reversed ≡ xs = ap reverse (r ∙ ap reverse c) ∙ reverse-reverse xs in
    let long : length around ≡ length xs =
    omega (arith, ap length t, length-append (drop k reversed) (take k reversed), length-drop k reversed, length-take-le k reversed (omega arith), ap length back, length-reverse reversed) in
    rw (take_at around (drop (length xs) page) (length xs) long, t) (rw back at (reverse-turned reversed k l h))
