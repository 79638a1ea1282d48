-- The line of an entry reads as that entry, and no other line does.
use Rattle.std.proofs.Common.{◌≡◌, ◌↔◌, ℕ, ◌+◌, ◌*◌, ◌/◌, ◌%◌, ◌^◌, ◌<◌, ◌≤◌, Bool, true, false, cond, ◌&&◌, ◌||◌, eqb, ltb, List, [], ◌∷◌, length, get_or, is_none, take, Ok, Err, Result, All, sym, ap, ◌∙◌, subst, arith}
use Rattle.std.proofs.lemmas.Bool.{cond-false, eqb-true, not-false, ltb-false}
use Rattle.std.proofs.lemmas.Bool.Decides.{nat_tests}
use Rattle.std.proofs.lemmas.Grind.{common_steps}
use Rattle.std.proofs.lemmas.List.{get_or_past}
use Rattle.std.proofs.lemmas.List.Elements.{All-get_or}
use Rattle.std.proofs.lemmas.List.Sums.{fails_before_first}
use Rattle.lines.specs.declared.entry.Entry.{Entry}
use Rattle.lines.specs.declared.entry.Entry.TheVariants.{Carrier, Stop, Precedence, Strike, Judge, Lane}
use Rattle.lines.specs.declared.entry.Input.{Input}
use Rattle.lines.specs.declared.refusal.LineRefusal.{LineRefusal}
use Rattle.lines.specs.declared.refusal.LineRefusal.TheVariants.{BadLength, BadDigit, UnknownKind, BadRule}
use Rattle.lines.specs.Digits.{value_of, first_bad, digits, line_bytes, two}
use Rattle.lines.specs.Entries.{kind_of, fields_of, rule_byte, line_of, Lawful, has, Says}
use Rattle.lines.specs.Reading.{empty_or_odd, unknown_kind, wrong_length, bad_rule, first_byte, word, size_of, unruled, rule_of, entry_of, reading}
use Rattle.lines.proofs.Hexadecimal.{IsByte, length_digits, bytes_digits, first_bad_digits, digits_bytes, small_bytes}
use Rattle.lines.proofs.Readings.{saying, any_saying, even_line, reading_kept}
use Rattle.yard.specs.Rules.{gap_of}

-- the bytes of an entry

small_fields : (e : Entry) → Lawful e → All IsByte (kind_of e ∷ fields_of e)
small_fields e h = grind (arith, common_steps)

sizes : (e : Entry) → (1 ≤ length (kind_of e ∷ fields_of e)) × (length (kind_of e ∷ fields_of e) ≤ 7)
sizes e = grind arith

word_back : (n : ℕ) → n < 2 ^ 16 → n / 256 % 256 * 256 + n % 256 ≡ n
word_back n h = omega arith

entry_back : (input : Input) (e : Entry) → Lawful e → has input (kind_of e) ≡ true → saying input (kind_of e ∷ fields_of e) ≡ Ok e
entry_back input (Carrier start goal) h k = grind (arith, word_back)
entry_back input (Stop carrier place) h k = grind (arith, word_back)
entry_back input (Precedence first second place) h k = grind (arith, word_back)
entry_back input (Strike first second place) h k = grind (arith, word_back)
entry_back input (Judge rule) h k = grind (arith, nat_tests, word_back)
entry_back input (Lane from to time) h k = grind (arith, word_back)

-- the line of a lawful entry reads as that entry, in an input that has its kind
pub read_back : (input : Input) (e : Entry) → Lawful e → has input (kind_of e) ≡ true → reading input (line_of e) ≡ Ok e
unfolding line_of
read_back input e h k =
    let bs = kind_of e ∷ fields_of e in
    let z = sizes e in
    let n : length (digits bs) ≡ 2 * length bs = length_digits bs in
    let c : first_bad (digits bs) ≡ length (digits bs) = first_bad_digits bs (small_fields e h) in
    let q : ltb (first_bad (digits bs)) (length (digits bs)) ≡ false = grind (arith, nat_tests) in
    let some : eqb (length bs) 0 ≡ false = grind (arith, nat_tests) in
    sym (even_line input (digits bs) (omega arith) q (omega arith))
    ∙ ap (any_saying input) (bytes_digits bs (small_fields e h))
    ∙ cond-false (eqb (length bs) 0) (Err BadLength) (saying input bs) some
    ∙ entry_back input e h k

-- a line that reads as an entry passed every check
passed : (a b d f g i : Bool) (n : ℕ) (x e : Entry) → cond a (Err BadLength) (cond b (Err (BadDigit n)) (cond d (Err BadLength) (cond f (Err UnknownKind) (cond g (Err BadLength) (cond i (Err BadRule) (Ok x)))))) ≡ Ok e → (b ≡ false) × (d ≡ false) × (f ≡ false) × (g ≡ false) × (i ≡ false) × (x ≡ e)
passed a b d f g i n x e h = grind arith

known : (input : Input) (k : ℕ) → has input k ≡ true → (1 ≤ k) × (k ≤ 6)
known input k h = grind (arith, nat_tests)

-- a rule byte and a gap that go together are those of a rule
ruled : (rule gap : ℕ) → unruled rule gap ≡ false → (rule_byte (rule_of rule gap) ≡ rule) × (gap_of (rule_of rule gap) ≡ gap) × (gap ≤ 36000)
ruled rule gap h = grind (arith, nat_tests)

four : (bs : List ℕ) → length bs ≡ 4 → bs ≡ get_or bs 0 0 ∷ get_or bs 1 0 ∷ get_or bs 2 0 ∷ get_or bs 3 0 ∷ []
four bs h = grind (arith, common_steps)

five : (bs : List ℕ) → length bs ≡ 5 → bs ≡ get_or bs 0 0 ∷ get_or bs 1 0 ∷ get_or bs 2 0 ∷ get_or bs 3 0 ∷ get_or bs 4 0 ∷ []
five bs h = grind (arith, common_steps)

seven : (bs : List ℕ) → length bs ≡ 7 → bs ≡ get_or bs 0 0 ∷ get_or bs 1 0 ∷ get_or bs 2 0 ∷ get_or bs 3 0 ∷ get_or bs 4 0 ∷ get_or bs 5 0 ∷ get_or bs 6 0 ∷ []
seven bs h = grind (arith, common_steps)

two_word : (a b : ℕ) (rest : List ℕ) → a < 256 → b < 256 → two (a * 256 + b) rest ≡ a ∷ b ∷ rest
two_word a b rest h k = grind arith

-- the bytes are those of the entry, which is lawful and has their kind
abbrev Made : List ℕ → Entry → Type 0
Made bs e = (bs ≡ kind_of e ∷ fields_of e) × Lawful e × (kind_of e ≡ first_byte bs)

module _ (bs : List ℕ) (small : All IsByte bs) (low : 1 ≤ first_byte bs) (high : first_byte bs ≤ 6)
    (sized : length bs ≡ size_of (first_byte bs)) (rule : (eqb (first_byte bs) 5 && unruled (get_or bs 1 0) (word bs 2)) ≡ false) where
  at : (i : ℕ) → get_or bs i 0 < 256
  at i = grind (arith, get_or_past, All-get_or IsByte bs i 0)

  word_at : (i : ℕ) (rest : List ℕ) → two (word bs i) rest ≡ get_or bs i 0 ∷ get_or bs (1 + i) 0 ∷ rest
  word_at i rest = two_word (get_or bs i 0) (get_or bs (1 + i) 0) rest (at i) (at (1 + i))

  word_small : (i : ℕ) → word bs i < 2 ^ 16
  word_small i = omega (arith, at i, at (1 + i))

  long : (k : ℕ) → first_byte bs ≡ k → length bs ≡ size_of k
  long k q = sized ∙ ap size_of q

  carrier : first_byte bs ≡ 1 → Made bs (Carrier (word bs 1) (word bs 3))
  carrier q = grind (arith, five bs (long 1 q), at 1, at 2, at 3, at 4)

  stop : first_byte bs ≡ 2 → Made bs (Stop (get_or bs 1 0) (word bs 2))
  stop q = grind (arith, four bs (long 2 q), at 1, word_at 2 [], word_small 2)

  precedence : first_byte bs ≡ 3 → Made bs (Precedence (get_or bs 1 0) (get_or bs 2 0) (word bs 3))
  precedence q = grind (arith, five bs (long 3 q), at 1, at 2, word_at 3 [], word_small 3)

  strike : first_byte bs ≡ 4 → Made bs (Strike (get_or bs 1 0) (get_or bs 2 0) (word bs 3))
  strike q = grind (arith, five bs (long 4 q), at 1, at 2, word_at 3 [], word_small 3)

  judge : first_byte bs ≡ 5 → Made bs (Judge (rule_of (get_or bs 1 0) (word bs 2)))
  judge q = grind (arith, nat_tests, four bs (long 5 q), word_at 2 [], ruled)

  lane : first_byte bs ≡ 6 → Made bs (Lane (word bs 1) (word bs 3) (word bs 5))
  lane q = grind (arith, seven bs (long 6 q), at 1, at 2, at 3, at 4, at 5, at 6)

  pub made : Made bs (entry_of bs)
  made =
      grind (arith, nat_tests, carrier, stop, precedence, strike, judge, lane)

pub only_line : (input : Input) (line : List ℕ) (e : Entry) → reading input line ≡ Ok e → Says input line e
unfolding reading line_of
only_line input line e h =
    let bs = line_bytes line in
    let bad = first_bad line in
    let p = passed (ltb 64 (length line)) (ltb bad (length line)) (empty_or_odd line).applies (unknown_kind input bs).applies (wrong_length bs).applies (bad_rule bs).applies bad (entry_of bs) e h in
    let shape : (eqb (length line) 0 || eqb (length line % 2) 1) ≡ false = p.1 in
    let had : has input (first_byte bs) ≡ true = not-false (has input (first_byte bs)) p.2 in
    let sized : length bs ≡ size_of (first_byte bs) = eqb-true (length bs) (size_of (first_byte bs)) (not-false (eqb (length bs) (size_of (first_byte bs))) p.3) in
    let k = known input (first_byte bs) had in
    let m = made bs (small_bytes line) k.0 k.1 sized p.4 in
    let even : length line % 2 ≡ 0 = grind (arith, nat_tests) in
    let all = ltb-false bad (length line) p.0 in
    let again = digits_bytes line (λ k l. fails_before_first (λ b. is_none (value_of b)) line k 0 (omega arith)) even in
    subst (Says input line) p.5 (sym again ∙ ap digits m.0, m.1, ap (has input) m.2 ∙ had)

-- what follows for an answer that is the reading of a line
pub exactly : (input : Input) (line : List ℕ) (r : Result Entry LineRefusal) → r ≡ reading input line → (e : Entry) → (r ≡ Ok e) ↔ Says input line e
exactly input line r s e = (λ h. only_line input line e (sym s ∙ h), λ y. s ∙ (ap (reading input) y.0 ∙ read_back input e y.1 y.2))

pub of_kept : (input : Input) (line : List ℕ) (r : Result Entry LineRefusal) → r ≡ reading input line → (whole : List ℕ) → line ≡ take 65 whole → r ≡ reading input whole
of_kept input line r s whole k = s ∙ (ap (reading input) k ∙ reading_kept input whole)
