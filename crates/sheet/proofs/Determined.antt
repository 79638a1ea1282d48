-- The calls made since the opening decide the answers and the book.
use Rattle.std.proofs.Common.{◌≡◌, Ok, Err, sym, refl, ap, ◌∙◌, inl, arith}
use Rattle.sheet.specs.declared.refusal.EntryRefusal.{EntryRefusal}
use Rattle.sheet.specs.Book.{Book}
use Rattle.sheet.specs.Calls.{Call, Answer, Checks, checks, Refuses, Accepts, Answers, Changes, Leaves, without_precedence}
use Rattle.sheet.specs.Calls.Call.{enter_carrier, enter_stop, enter_precedence, strike_precedence}
use Rattle.sheet.specs.Calls.Checks.{no_more, check}
use Rattle.sheet.specs.Histories.{History, Entry, Enters, Lawful, calls_of, CallsDecide}
use Rattle.sheet.specs.Histories.History.{opening, ◌▹◌}
use Rattle.sheet.specs.Sound.{Sound}
use Rattle.sheet.proofs.Soundness.{ever_sound}

-- the first check that applies is one
one_refusal : (cs : Checks) (e e' : EntryRefusal) → Refuses cs e → Refuses cs e' → e ≡ e'
one_refusal no_more e e' p q = absurd p
one_refusal (check P own cs) e e' p q = grind (arith, one_refusal cs e e')

-- what is refused is not accepted
not_both : (cs : Checks) (e : EntryRefusal) → Refuses cs e → ¬ Accepts cs
not_both no_more e p q = p
not_both (check P own cs) e p q = grind (arith, not_both cs e)

pub one_answer : (b : Book) (call : Call) (r r' : Answer) → Answers b call r → Answers b call r' → r ≡ r'
one_answer b call (Ok n) (Ok n') p q = ap Ok (p.1 ∙ sym q.1)
one_answer b call (Ok n) (Err e) p q = absurd (not_both (checks b call) e q p.0)
one_answer b call (Err e) (Ok n) p q = absurd (not_both (checks b call) e p q.0)
one_answer b call (Err e) (Err e') p q = ap Err (one_refusal (checks b call) e e' p q)

one_change : (b x y : Book) → Sound b → (call : Call) → Changes b call x → Changes b call y → x ≡ y
one_change b x y sound (enter_carrier start goal) p q = p ∙ sym q
one_change b x y sound (enter_stop carrier place) p q = p ∙ sym q
one_change b x y sound (enter_precedence first second place) p q = p ∙ sym q
one_change b x y sound (strike_precedence first second place) p q =
    p.2 ∙ (ap (without_precedence b) (sound.decided_once p.0 q.0 first second place p.1 (inl q.1)) ∙ sym q.2)

pub one_book : (b x y : Book) → Sound b → (call : Call) (r : Answer) → Leaves b call r x → Leaves b call r y → x ≡ y
one_book b x y sound call (Ok n) p q = one_change b x y sound call p q
one_book b x y sound call (Err e) p q = p ∙ sym q

-- one call more
abbrev DecidesFrom : History Entry → Type 0
DecidesFrom h = (h' : History Entry) (b b' : Book) → Lawful h b → Lawful h' b' → calls_of h ≡ calls_of h' → (h ≡ h') × (b ≡ b')

more : (h h' : History Entry) (e e' : Entry) (b b' : Book) → DecidesFrom h → Lawful (h ▹ e) b → Lawful (h' ▹ e') b' → calls_of h ≡ calls_of h' → e.0 ≡ e'.0 → ((h ▹ e) ≡ (h' ▹ e')) × (b ≡ b')
more h h' (call, r) (call', r') b b' before (x, led, did) (x', led', did') hs same =
    let ih = before h' x x' led led' hs in
    let did'' : Enters x (call, r') b' = rw (ih.1, same) did' in
    let answer : r ≡ r' = one_answer x call r r' did.0 did''.0 in
    let leaves : Leaves x call r b' = rw answer did''.1 in
    ((λ i. ih.0 i ▹ (same i, answer i)), one_book x b b' (ever_sound h x led) call r did.1 leaves)

pub calls_decide : CallsDecide
calls_decide opening opening b b' p q e = (refl, p ∙ sym q)
calls_decide opening (h' ▹ e') b b' p q e = (cc, cc)
calls_decide (h ▹ e₀) opening b b' p q e = (cc, cc)
calls_decide (h ▹ e₀) (h' ▹ e') b b' p q e =
    let earlier : calls_of h ≡ calls_of h' = cc in
    let latest : e₀.0 ≡ e'.0 = cc in
    more h h' e₀ e' b b' (calls_decide h) p q earlier latest
