-- Numbers written one after the other.
use Rattle.std.proofs.Common.{◌≡◌, ℕ, ◌+◌, ◌-◌, ◌*◌, ◌<◌, ◌≤◌, cond, ltb, List, [], ◌∷◌, ◌++◌, length, get_or, take, drop, is_ok, Ok, Err, Result, All, ap, ◌∙◌, mul_assoc, mul-zero, mul-suc, arith, rules}
use borrow.Rule.Slice.PartMut.{put_mid}
use Rattle.std.specs.List.{flat_map}
use Rattle.std.proofs.lemmas.Bool.Decides.{nat_tests}
use Rattle.std.proofs.lemmas.Grind.{common_steps}
use Rattle.std.proofs.lemmas.List.Elements.{All-nil, All-cons, All-append}
use Rattle.std.proofs.lemmas.List.Folds.{length-flat_map-take}
use Rattle.std.proofs.lemmas.List.{append_assoc, length-append, length-take-le, take_at, drop_at, drop-drop}
use Rattle.lines.specs.declared.refusal.WriteRefusal.{WriteRefusal}
use Rattle.lines.specs.declared.refusal.WriteRefusal.TheVariants.{PageTooShort, ListTooLong}
use Rattle.lines.specs.Digits.{digits, two}
use Rattle.lines.specs.Pages.{written, placing}
use Rattle.replies.specs.Answers.{listed}
use Rattle.lines.proofs.Hexadecimal.{IsByte, length_digits, digits_append}
use Rattle.lines.proofs.Placing.{landed}

-- a text written after another one
pub extended : (front text start : List ℕ) (at : ℕ) → length front ≡ at → written (front ++ drop at start) at text ≡ (front ++ text) ++ drop (at + length text) start
extended front text start at h =
    let t = take_at front (drop at start) at h in
    let d = drop_at front (drop at start) at h in
    let e = drop-drop (length text) at (front ++ drop at start) in
    let f = drop-drop (length text) at start in
    let a = append_assoc front text (drop (at + length text) start) in
    cc

pub all_joined : {X : Type 0} (f : X → List ℕ) (P : ℕ → Type 0) → ((x : X) → All P (f x)) → (xs : List X) → All P (flat_map f xs)
all_joined f P h [] = All-nil P
all_joined f P h (x ∷ xs) = All-append P (f x) (flat_map f xs) (h x) (all_joined f P h xs)

module _ {X : Type 0} (f : X → List ℕ) where
  pub length_joined : (size : ℕ) → ((x : X) → length (f x) ≡ size) → (xs : List X) → length (flat_map f xs) ≡ size * length xs
  length_joined size h [] = grind (arith, mul-zero)
  length_joined size h (x ∷ xs) = grind (arith, common_steps, h x, mul-suc size (length xs), length_joined size h xs)

  pub length_listed : (size : ℕ) → ((x : X) → length (f x) ≡ size) → (code : ℕ) (xs : List X) → length (digits (listed code f xs)) ≡ 6 + 2 * size * length xs
  length_listed size h code xs = omega (arith, length_digits (listed code f xs), length_joined size h xs, mul_assoc 2 size (length xs))

  -- a number of the list is written after those before it
  module _ (xs : List X) (i : ℕ) (x : X) (start part after : List ℕ) (at : ℕ) (r : Result ℕ WriteRefusal)
      (within : i < length xs) (here : x ≡ get_or xs i x)
      (room : 2 * length (flat_map f xs) ≤ length start)
      (far : at ≡ 2 * length (flat_map f (take i xs)))
      (now : part ≡ digits (flat_map f (take i xs)) ++ drop at start)
      (value : r ≡ placing part at (digits (f x))) where
    more : flat_map f (take (i + 1) xs) ≡ flat_map f (take i xs) ++ f x
    more = grind (arith, common_steps)

    long : length (digits (flat_map f (take i xs))) ≡ at
    long = grind (arith, length_digits)

    next : at + 2 * length (f x) ≡ 2 * length (flat_map f (take (i + 1) xs))
    next = grind (arith, more, common_steps)

    -- it is not refused
    taken : r ≡ Ok (2 * length (f x))
    taken = grind (arith, nat_tests, common_steps, length_digits, length-flat_map-take f xs i x within)

    one_more : after ≡ cond (is_ok r) (written part at (digits (f x))) part → after ≡ digits (flat_map f (take (i + 1) xs)) ++ drop (at + 2 * length (f x)) start
    one_more e =
        let before = flat_map f (take i xs) in
        grind (arith, taken, more, length_digits (f x), extended (digits before) (digits (f x)) start at long, digits_append before (f x))

    pub step : after ≡ cond (is_ok r) (written part at (digits (f x))) part
        → (r ≡ Ok (2 * length (f x)))
        × (at + 2 * length (f x) ≡ 2 * length (flat_map f (take (i + 1) xs)))
        × (after ≡ digits (flat_map f (take (i + 1) xs)) ++ drop (at + 2 * length (f x)) start)
    step e = (taken, next, one_more e)

-- two texts, one after the other, are one text
pub appended : (page front text : List ℕ) (at : ℕ) → at ≤ length page → written (written page at front) (at + length front) text ≡ written page at (front ++ text)
appended page front text at h =
    let a = append_assoc (take at page) front (drop (at + length front) page) in
    let l : length (take at page ++ front) ≡ at + length front = length-append (take at page) front ∙ ap (λ (n : ℕ). n + length front) (length-take-le at page h) in
    let e = extended (take at page ++ front) text page (at + length front) l in
    let b = append_assoc (take at page) front text in
    let c = append_assoc (take at page) (front ++ text) (drop (at + length front + length text) page) in
    let n : at + length (front ++ text) ≡ at + length front + length text = omega (arith, length-append front text) in
    cc

length_written : (page text : List ℕ) (at : ℕ) → at + length text ≤ length page → length (written page at text) ≡ length page
length_written page text at h = grind (arith, common_steps)

module _ {X : Type 0} (f : X → List ℕ) (size : ℕ) (sized : (x : X) → length (f x) ≡ size) (code : ℕ) (xs : List X) (page : List ℕ) (at : ℕ)
    (few : length xs < 65536) where
  pub too_short : length page < at + (6 + 2 * size * length xs) → Err PageTooShort ≡ cond (ltb 65535 (length xs)) (Err ListTooLong) (placing page at (digits (listed code f xs)))
  too_short h = grind (arith, nat_tests, length_listed f size sized code xs)

  pub fitting : at + (6 + 2 * size * length xs) ≤ length page → Ok (6 + 2 * size * length xs) ≡ placing page at (digits (listed code f xs))
  fitting h = grind (arith, nat_tests, length_listed f size sized code xs)

  pub counting : placing page at (digits (listed code f xs)) ≡ cond (ltb 65535 (length xs)) (Err ListTooLong) (placing page at (digits (listed code f xs)))
  counting = grind (arith, nat_tests)

  pub small_listed : code < 256 → ((x : X) → All IsByte (f x)) → All IsByte (listed code f xs)
  small_listed h small = search (rules, All-cons, all_joined f IsByte small xs)

  -- the count's bytes are written, and then the numbers into the part behind them
  pub both_written : (head middle part : List ℕ) → at + 6 ≤ length page → head ≡ code ∷ two (length xs) [] → middle ≡ written page at (digits head)
      → part ≡ digits (flat_map f xs) ++ drop (2 * length (flat_map f xs)) (take (length middle - (at + 6)) (drop (at + 6) middle))
      → put_mid (at + 6) (length middle - (at + 6)) middle part ≡ written page at (digits (listed code f xs))
  both_written head middle part h b m p =
      let w : middle ≡ written page at (digits (code ∷ two (length xs) [])) = m ∙ ap (λ (t : List ℕ). written page at (digits t)) b in
      let a : written (written page at (digits (code ∷ two (length xs) []))) (at + 6) (digits (flat_map f xs)) ≡ written page at (digits (listed code f xs)) = appended page (digits (code ∷ two (length xs) [])) (digits (flat_map f xs)) at (omega arith) in
      let l = length_written page (digits (code ∷ two (length xs) [])) at h in
      landed middle part (flat_map f xs) (at + 6) (omega (arith, ap length w)) p ∙ (ap (λ (t : List ℕ). written t (at + 6) (digits (flat_map f xs))) w ∙ a)
