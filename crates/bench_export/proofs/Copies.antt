-- Copying the lines of a text one after another.
use Rattle.std.proofs.Common.{◌≡◌, ◌≢◌, ◌==◌, ℕ, ◌+◌, ◌-◌, ◌<◌, ◌≤◌, ◌⊎◌, cond, Bool, true, false, List, [], ◌∷◌, ◌++◌, length, map, take, drop, set, get_or, min, All, nat_le, refl, sym, ap, subst, ◌∙◌, zero-add, arith, append_assoc, length-append, inl, inr}
use Rattle.std.proofs.lemmas.Bool.Decides.{nat_tests, leb_tells}
use Rattle.std.proofs.lemmas.List.{append-nil, take-take, take_at, drop_at, drop-drop, drop-append-le, drop_more, take-append-drop, take_more, take_all, set_at, map-append, length-take, get_or_append_left, get_or-take, nil_from_length}
use Rattle.std.proofs.lemmas.List.Elements.{All-nil, All-push}
use Rattle.lines.specs.Pages.{written}
use Rattle.lines.specs.Reading.{reading}
use Rattle.lines.specs.declared.entry.Input.{Input}
use Rattle.yard_file.specs.Splits.{NoNewline, joined}
use Rattle.bench_export.specs.Copies.{Copied, copied, fitting, written_back}

regroup : (a b c d : List ℕ) → (a ++ (b ++ c)) ++ d ≡ (a ++ b) ++ (c ++ d)
regroup a b c d = simp append_assoc

newline_within : (a b c : List ℕ) → (a ++ b) ++ 10 ∷ c ≡ a ++ ((b ++ 10 ∷ []) ++ c)
newline_within a b c = simp append_assoc

-- a line and a newline after it, in a page whose last byte was kept for the newline
pub with_newline : (page text : List ℕ) (at room : ℕ) → room + 1 ≡ length page → at + length text ≤ room → set (written (take room page) at text ++ drop room page) (at + length text) 10 ≡ written page at (text ++ 10 ∷ [])
with_newline page text at room long fits =
    let k : ℕ = at + length text in
    let before : List ℕ = take at page in
    let after : List ℕ = drop (k + 1) page in
    let front : take at (take room page) ≡ before = take-take at room page (omega arith) in
    let within : k ≤ length (take room page) = rw length-take (omega arith) in
    let rest : drop k (take room page) ++ drop room page ≡ drop k page =
    sym (drop-append-le k (take room page) (drop room page) within) ∙ ap (drop k) (take-append-drop room page) in
    let next : drop k page ≡ get_or page k 0 ∷ after = drop_more page k 0 (omega arith) in
    let size : length (before ++ text) ≡ k = rw (length-append, length-take) (omega arith) in
    let whole : written (take room page) at text ++ drop room page ≡ (before ++ text) ++ get_or page k 0 ∷ after =
    ap (λ (l : List ℕ). (l ++ (text ++ drop k (take room page))) ++ drop room page) front
    ∙ regroup before text (drop k (take room page)) (drop room page)
    ∙ ap (λ (l : List ℕ). (before ++ text) ++ l) (rest ∙ next) in
    let one_more : at + length (text ++ 10 ∷ []) ≡ k + 1 = rw length-append (omega arith) in
    ap (λ (l : List ℕ). set l k 10) whole
    ∙ set_at (before ++ text) (get_or page k 0) after 10 k size
    ∙ newline_within before text after
    ∙ ap (λ (n : ℕ). before ++ ((text ++ 10 ∷ []) ++ drop n page)) (sym one_more)

at_front : (page front : List ℕ) → written page 0 front ≡ front ++ drop (length front) page
at_front page front = ap (λ (n : ℕ). front ++ drop n page) (zero-add (length front))

-- a text after what is written at the front of a page
written_after : (page front text : List ℕ) → written (written page 0 front) (length front) text ≡ written page 0 (front ++ text)
written_after page front text =
    let n : ℕ = length front in
    let k : ℕ = length text in
    let left : List ℕ = drop n page in
    let beyond : drop (n + k) (front ++ left) ≡ drop (n + k) page =
    sym (drop-drop k n (front ++ left)) ∙ ap (drop k) (drop_at front left n refl) ∙ drop-drop k n page in
    ap (λ (l : List ℕ). written l n text) (at_front page front)
    ∙ ap (λ (l : List ℕ). l ++ (text ++ drop (n + k) (front ++ left))) (take_at front left n refl)
    ∙ ap (λ (l : List ℕ). front ++ (text ++ l)) beyond
    ∙ sym (append_assoc front text (drop (n + k) page))
    ∙ ap (λ (m : ℕ). (front ++ text) ++ drop m page) (sym (length-append front text))
    ∙ sym (at_front page (front ++ text))

-- a text that has room is written, and another is not
written_if : (room : Bool) (page front text : List ℕ) → cond room (written (written page 0 front) (length front) text) (written page 0 front) ≡ written page 0 (front ++ cond room text [])
written_if true page front text = written_after page front text
written_if false page front text = ap (written page 0) (sym (append-nil front))

counted_if : (room : Bool) (front text : List ℕ) → cond room (length front + length text) (length front) ≡ length (front ++ cond room text [])
counted_if true front text = sym (length-append front text)
counted_if false front text = ap length (sym (append-nil front))

fitting_fits : (room : ℕ) (texts : List (List ℕ)) → length (fitting room texts) ≤ room
fitting_fits room [] = omega arith
fitting_fits room (text ∷ texts) =
    let kept = fitting_fits (room - length text) texts in
    let left = fitting_fits room texts in
    grind (arith, nat_tests, length-append)

-- one text more
fitting_more : (room : ℕ) (texts : List (List ℕ)) (text : List ℕ) → fitting room (texts ++ text ∷ []) ≡ fitting room texts ++ cond (nat_le (length text) (room - length (fitting room texts))) text []
fitting_more room [] text = grind (arith, nat_tests, append-nil)
fitting_more room (first ∷ texts) text =
    let kept = fitting_more (room - length first) texts text in
    let left = fitting_more room texts text in
    grind (arith, nat_tests, length-append, append_assoc)

copied_more : (input : Input) (room : ℕ) (lines : List (List ℕ)) (line : List ℕ) → copied input room (lines ++ line ∷ []) ≡ copied input room lines ++ cond (nat_le (length (written_back (reading input line))) (room - length (copied input room lines))) (written_back (reading input line)) []
copied_more input room lines line =
    let back : List ℕ → List ℕ = λ l. written_back (reading input l) in
    ap (fitting room) (map-append back lines (line ∷ [])) ∙ fitting_more room (map back lines) (back line)

joined_line : (lines : List (List ℕ)) (line rest : List ℕ) → joined lines (line ++ 10 ∷ rest) ≡ joined (lines ++ line ∷ []) rest
joined_line [] line rest = refl
joined_line (first ∷ lines) line rest = ap (λ (t : List ℕ). first ++ 10 ∷ t) (joined_line lines line rest)

-- what was copied of a text before what is left of it: the lines that have ended, and at the end one that has begun
pub record SoFar (input : Input) (text rest page page' : List ℕ) (at : ℕ) : Type 0 where
  pub lines : List (List ℕ)
  pub begun : List ℕ
  pub whole : text ≡ joined lines (begun ++ rest)
  pub each : All NoNewline lines
  pub plain : NoNewline begun
  pub only_last : (begun ≡ []) ⊎ (rest ≡ [])
  pub front : page' ≡ written page 0 (copied input (length page) lines)
  pub all : at ≡ length (copied input (length page) lines)

pub at_first : (input : Input) (text page : List ℕ) → SoFar input text text page page 0
at_first input text page = record { lines = []; begun = []; whole = refl; each = All-nil NoNewline; plain = All-nil (λ b. b ≢ 10); only_last = inl refl; front = refl; all = refl }

-- a part of what is left of the text, up to its first newline or its end
pub record Part (rest part rest' : List ℕ) : Type 0 where
  pub whole : rest ≡ part ++ rest'
  pub some : 0 < length rest
  pub end : ℕ
  pub size : length part ≡ min (end + 1) (length rest)
  pub before : (k d : ℕ) → 0 ≤ k → k < end → (get_or rest k d == 10) ≡ false
  pub here : end < length rest → (d : ℕ) → (get_or rest end d == 10) ≡ true

same_front : (part rest' rest : List ℕ) (k d : ℕ) → rest ≡ part ++ rest' → k < length part → get_or rest k d ≡ get_or part k d
same_front part rest' rest k d is lt = ap (λ (l : List ℕ). get_or l k d) is ∙ get_or_append_left part rest' d k lt

begun_none : (begun rest : List ℕ) → (begun ≡ []) ⊎ (rest ≡ []) → 0 < length rest → begun ≡ []
begun_none begun rest (inl none) some = none
begun_none begun rest (inr end) some = let none : length rest ≡ 0 = ap length end in absurd (omega arith)

module _ {input : Input} {text rest page page₀ : List ℕ} {at : ℕ} (s : SoFar input text rest page page₀ at) where
  pub stays_within : length page₀ ≡ length page → at ≤ length page₀
  stays_within long = rw (s.all, long) (fitting_fits (length page) (map (λ l. written_back (reading input l)) s.lines))

  -- a line that ends in a newline is copied
  pub line_copied : (rest' line page' : List ℕ) (at' : ℕ) → Part rest (line ++ 10 ∷ []) rest' → NoNewline line → length page₀ ≡ length page → page' ≡ cond (nat_le (length (written_back (reading input line))) (length page₀ - at)) (written page₀ at (written_back (reading input line))) page₀ → at' ≡ cond (nat_le (length (written_back (reading input line))) (length page₀ - at)) (at + length (written_back (reading input line))) at → SoFar input text rest' page page' at'
  line_copied rest' line page' at' part plain long page_is at_is =
      let back : List ℕ = written_back (reading input line) in
      let done : List ℕ = copied input (length page) s.lines in
      let has_room : Bool = nat_le (length back) (length page - length done) in
      let none = begun_none s.begun rest s.only_last part.some in
      record {
        lines = s.lines ++ line ∷ [];
        begun = [];
        whole = s.whole ∙ ap (λ (b : List ℕ). joined s.lines (b ++ rest)) none ∙ ap (joined s.lines) part.whole ∙ ap (joined s.lines) (append_assoc line (10 ∷ []) rest') ∙ joined_line s.lines line rest';
        each = All-push NoNewline s.lines line s.each plain;
        plain = All-nil (λ b. b ≢ 10);
        only_last = inl refl;
        front = page_is
            ∙ ap (λ (n : ℕ). cond (nat_le (length back) (n - at)) (written page₀ at back) page₀) long
            ∙ ap (λ (k : ℕ). cond (nat_le (length back) (length page - k)) (written page₀ k back) page₀) s.all
            ∙ ap (λ (p : List ℕ). cond has_room (written p (length done) back) p) s.front
            ∙ written_if has_room page done back
            ∙ ap (written page 0) (sym (copied_more input (length page) s.lines line));
        all = at_is
            ∙ ap (λ (n : ℕ). cond (nat_le (length back) (n - at)) (at + length back) at) long
            ∙ ap (λ (k : ℕ). cond (nat_le (length back) (length page - k)) (k + length back) k) s.all
            ∙ counted_if has_room done back
            ∙ ap length (sym (copied_more input (length page) s.lines line));
      }

  -- what follows the last newline is no line
  pub last_begun : (rest' part : List ℕ) → Part rest part rest' → NoNewline part → rest' ≡ [] → SoFar input text rest' page page₀ at
  last_begun rest' part p plain end = record {
    lines = s.lines;
    begun = part;
    whole = s.whole ∙ ap (λ (b : List ℕ). joined s.lines (b ++ rest)) (begun_none s.begun rest s.only_last p.some) ∙ ap (joined s.lines) p.whole;
    each = s.each;
    plain = plain;
    only_last = inr end;
    front = s.front;
    all = s.all;
  }

  pub text_copied : length rest ≡ 0 → Copied input text page page₀ at
  text_copied none = record {
    lines = s.lines;
    begun = s.begun;
    split = record {
      whole = s.whole ∙ ap (λ (r : List ℕ). joined s.lines (s.begun ++ r)) (nil_from_length rest none) ∙ ap (joined s.lines) (append-nil s.begun);
      each = s.each;
      rest = s.plain;
    };
    front = s.front;
    all = s.all;
  }

eqb_true : (a b : ℕ) → (a == b) ≡ true → a ≡ b
eqb_true a b is = grind (arith, nat_tests)

below_or_not : (m n : ℕ) → (m < n) ⊎ (n ≤ m)
below_or_not m n = elim (leb_tells n m) [ inl t ↦ inr t.1 | inr f ↦ inl f.1 ]

module _ {rest part rest' : List ℕ} (p : Part rest part rest') where
  -- a part that ends in a newline is a line and its newline
  part_ends : 1 ≤ length part → get_or part (length part - 1) 0 ≡ 10 → (part ≡ take (length part - 1) part ++ 10 ∷ []) × NoNewline (take (length part - 1) part)
  part_ends some newline =
      let n : ℕ = length part - 1 in
      let all : take (n + 1) part ≡ part = take_all (n + 1) part (omega arith) in (
        sym all ∙ take_more part n 0 (omega arith) ∙ ap (λ (b : ℕ). take n part ++ b ∷ []) newline,
        λ k d lt.
            let size : length (take n part) ≡ min n (length part) = length-take n part in
            let front = get_or-take n part k d (omega arith) in
            let same = same_front part rest' rest k d p.whole (omega arith) in
            let differs = p.before k d (omega arith) (omega (arith, p.size)) in
            grind (arith, nat_tests),
      )

  pub line_in_part : 1 ≤ length part → get_or part (length part - 1) 0 ≡ 10 → Part rest (take (length part - 1) part ++ 10 ∷ []) rest' × NoNewline (take (length part - 1) part)
  line_in_part some newline =
      let ends = part_ends some newline in
      let Is : List ℕ → Type 0 = λ q. Part rest q rest' in
      (subst Is ends.0 p, ends.1)

  -- any other part is the last, and has no newline
  pub part_last : 1 ≤ length part → get_or part (length part - 1) 0 ≢ 10 → NoNewline part × (rest' ≡ [])
  part_last some other =
      let n : ℕ = length part - 1 in
      let same = same_front part rest' rest n 0 p.whole (omega arith) in
      let beyond : length rest ≤ p.end = elim (below_or_not p.end (length rest)) [
        | inl lt ↦
            let last : p.end ≡ n = omega (arith, p.size) in
            let here = p.here lt 0 in
            absurd (other (sym same ∙ ap (λ (k : ℕ). get_or rest k 0) (sym last) ∙ eqb_true (get_or rest p.end 0) 10 here))
        | inr le ↦ le
      ] in
      let sizes : length rest ≡ length part + length rest' = ap length p.whole ∙ length-append part rest' in (
        λ k d lt.
            let same = same_front part rest' rest k d p.whole lt in
            let differs = p.before k d (omega arith) (omega (arith, p.size)) in
            grind (arith, nat_tests),
        nil_from_length rest' (omega (arith, p.size)),
      )
