-- A reply is understood as what it says.
use Rattle.std.proofs.Common.{◌≡◌, ℕ, ◌+◌, ◌*◌, ◌/◌, ◌%◌, ◌^◌, ◌<◌, cond, ltb, List, [], ◌∷◌, ◌++◌, length, Ok, Err, Result, sym, refl, ap, ◌∙◌, subst, arith}
use Rattle.std.specs.List.{flat_map, All}
use Rattle.std.proofs.lemmas.Bool.Decides.{nat_tests}
use Rattle.std.proofs.lemmas.Grind.{common_steps}
use Rattle.std.proofs.lemmas.List.Elements.{All-tail}
use Rattle.lines.specs.declared.refusal.WriteRefusal.{WriteRefusal}
use Rattle.lines.specs.declared.refusal.WriteRefusal.TheVariants.{ListTooLong}
use Rattle.replies.specs.Answers.{Answer, accepted, passed, ring, refused, pair, four, bytes_of}
use Rattle.replies.specs.Questions.{Question, entering, judging, Suits, front_two, front_four, numbers, understood}

-- numbers that were joined are taken apart again
numbers_joined : (f : ℕ → List ℕ) (front : List ℕ → ℕ) (size : ℕ) → ((x : ℕ) → length (f x) ≡ size) → (xs : List ℕ) → All (λ x. (rest : List ℕ) → front (f x ++ rest) ≡ x) xs → numbers size front (length xs) (flat_map f xs) ≡ xs
numbers_joined f front size sized [] h = refl
numbers_joined f front size sized (x ∷ xs) h =
    let rest = numbers_joined f front size sized xs (All-tail (λ x. (rest : List ℕ) → front (f x ++ rest) ≡ x) x xs h) in
    grind (arith, common_steps, sized x, h 0 x (omega arith) (flat_map f xs))

two_back : (n : ℕ) → n < 2 ^ 16 → n / 256 % 256 * 256 + n % 256 ≡ n
two_back n h = omega arith

pub accepted_back : (q : Question) (number : ℕ) → number < 2 ^ 16 → Suits q (accepted number) → understood q (bytes_of (accepted number)) ≡ accepted number
unfolding understood
accepted_back entering number h s = ap accepted (two_back number h)
accepted_back judging number h s = absurd s

pub passed_back : (q : Question) (arrivals : List ℕ) → length arrivals < 2 ^ 16 → All (λ x. (rest : List ℕ) → front_four (four x ++ rest) ≡ x) arrivals → Suits q (passed arrivals) → understood q (bytes_of (passed arrivals)) ≡ passed arrivals
unfolding understood
passed_back entering arrivals h k s = absurd s
passed_back judging arrivals h k s =
    let n = two_back (length arrivals) h in
    rw n (ap passed (numbers_joined four front_four 4 (λ _. refl) arrivals k))

pub ring_back : (q : Question) (stops : List ℕ) → length stops < 2 ^ 16 → All (λ x. (rest : List ℕ) → front_two (pair x ++ rest) ≡ x) stops → Suits q (ring stops) → understood q (bytes_of (ring stops)) ≡ ring stops
unfolding understood
ring_back entering stops h k s = absurd s
ring_back judging stops h k s =
    let n = two_back (length stops) h in
    rw n (ap ring (numbers_joined pair front_two 2 (λ _. refl) stops k))

pub refused_back : (q : Question) (number first second : ℕ) → first < 2 ^ 16 → second < 2 ^ 16 → Suits q (refused number first second) → understood q (bytes_of (refused number first second)) ≡ refused number first second
unfolding understood
refused_back q number first second f s h = grind (arith, nat_tests, two_back)

-- the bytes of a reply were written for an answer that is that reply
pub told : (q : Question) (answer reply : Answer) (bs : List ℕ) → answer ≡ reply → bs ≡ bytes_of reply → (Suits q reply → understood q (bytes_of reply) ≡ reply) → Suits q answer → understood q bs ≡ answer
told q answer reply bs is made back suits = ap (understood q) made ∙ back (subst (Suits q) is suits) ∙ sym is

-- a list that was written has a count that fits its bytes
pub few : (count : ℕ) (r : Result ℕ WriteRefusal) (n : ℕ) → cond (ltb 65535 count) (Err ListTooLong) r ≡ Ok n → count < 2 ^ 16
few count r n h = grind (arith, nat_tests)
