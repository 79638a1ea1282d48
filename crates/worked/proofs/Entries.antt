-- What a book answers to a call, worked out by tests, and the book that the call leaves.
use Rattle.std.proofs.Common.{◌≡◌, ℕ, ◌≤◌, Bool, true, false, cond, not, ◌&&◌, ◌||◌, eqb, ltb, leb, List, [], ◌∷◌, length, Some, None, Ok, Err, Decides, Option, refl, ap, ◌∙◌, ⊎_elim, arith, rules}
use Rattle.std.specs.List.{slice_get, list_any, position_or_len}
use Rattle.std.proofs.iter.runs.Lists.{none-some, same_Some}
use Rattle.std.proofs.lemmas.Bool.{false≢true, cases_Bool}
use Rattle.std.proofs.lemmas.Bool.Decides.{Decides-eqb, Decides-ltb, Decides-not, Decides-or, Decides-like, not_from_Decides, nat_tests}
use Rattle.std.proofs.lemmas.List.Folds.{Any-from_list_any, list_any_at}
use Rattle.std.proofs.lemmas.Option.{slice_get_within, get_or_from_slice_get, slice_get-get_or}
use Rattle.sheet.specs.declared.refusal.EntryRefusal.{EntryRefusal}
use Rattle.sheet.specs.declared.refusal.EntryRefusal.TheVariants.{LimitReached, NoCarrier, EndTaken, RouteAtGoal, PlaceTooHigh, PlaceOnRoute, SameCarrier, NotOnBothRoutes, FirstsGoalOrSecondsStart, AlreadyDecided, NothingToStrike}
use Rattle.sheet.specs.Book.{BookCarrier, BookStop, BookPrecedence, Book, StartOf, GoalOf, OnRoute, ReachedGoal, Decided}
use Rattle.sheet.specs.Calls.{Call, enter_carrier, enter_stop, enter_precedence, strike_precedence, Answer, StartTaken, GoalTaken, Standing, Checks, no_more, check, checks, Refuses, Accepts, number, Answers, with_carrier, with_stop, with_precedence, without_precedence, Changes, Leaves}
use Rattle.worked.proofs.Lists.{first_there}

pub decides_leb : (a b : ℕ) → Decides (leb a b) (a ≤ b)
decides_leb a b = grind (arith, nat_tests)

-- a test of what stands at a number, if anything does
abbrev at? : {A : Type 0} → (A → Bool) → Option A → Bool
at? t None = false
at? t (Some x) = t x

decides_at? : {A : Type 0} (t : A → Bool) (Q : A → Type 0) → ((x : A) → Decides (t x) (Q x)) → (o : Option A) → Decides (at? t o) ((x : A) × (o ≡ Some x) × Q x)
decides_at? t Q d None = (λ h. absurd (false≢true h), λ r. absurd (none-some r.0 r.1))
decides_at? t Q d (Some x) = (λ h. (x, refl, (d x).0 h), λ r. ap t (same_Some x r.0 r.1) ∙ (d r.0).1 r.2)

-- the tests of a stop and of a precedence
abbrev is_stop : ℕ → ℕ → BookStop → Bool
is_stop c u x = eqb x.carrier c && eqb x.place u

abbrev is_precedence : ℕ → ℕ → ℕ → BookPrecedence → Bool
is_precedence first second u x = eqb x.first first && (eqb x.second second && eqb x.place u)

decides_stop : (c u : ℕ) (x : BookStop) → Decides (is_stop c u x) (x ≡ record { carrier = c; place = u })
decides_stop c u x = grind (arith, nat_tests)

decides_precedence : (first second u : ℕ) (x : BookPrecedence) → Decides (is_precedence first second u x) (x ≡ record { first = first; second = second; place = u })
decides_precedence first second u x = grind (arith, nat_tests)

-- something that passes a test stands in a list
decides_somewhere : {A : Type 0} (t : A → Bool) (Q : A → Type 0) → ((x : A) → Decides (t x) (Q x)) → (xs : List A) → Decides (list_any t xs) ((k : ℕ) × (x : A) × (slice_get xs k ≡ Some x) × Q x)
decides_somewhere t Q d xs = (
  λ h. let (k, x, l, e, p) = Any-from_list_any t xs h in (k, x, slice_get-get_or xs k x l ∙ ap Some e, (d x).0 p),
  λ (k, x, e, q). list_any_at t xs k x (slice_get_within xs k x e) (ap t (get_or_from_slice_get xs k x x e) ∙ (d x).1 q),
)

-- something equal to a value does
decides_standing_value : {A : Type 0} (t : A → Bool) (v : A) → ((x : A) → Decides (t x) (x ≡ v)) → (xs : List A) → Decides (list_any t xs) ((k : ℕ) × (slice_get xs k ≡ Some v))
decides_standing_value {A} t v d xs =
    Decides-like _ (λ r. (r.0, r.2 ∙ ap Some r.3)) (λ r. (r.0, v, r.1, refl)) (decides_somewhere t (λ x. x ≡ v) d xs)

module _ (b : Book) where
  abbrev pub on_route? : ℕ → ℕ → Bool
  on_route? c u = list_any (is_stop c u) b.stops

  pub decides_on_route : (c u : ℕ) → Decides (on_route? c u) (OnRoute b c u)
  decides_on_route c u = decides_standing_value (is_stop c u) (record { carrier = c; place = u }) (decides_stop c u) b.stops

  abbrev pub standing? : ℕ → ℕ → ℕ → Bool
  standing? first second u = list_any (is_precedence first second u) b.precedences

  pub decides_standing : (first second u : ℕ) → Decides (standing? first second u) (Standing b first second u)
  decides_standing first second u = decides_standing_value (is_precedence first second u) (record { first = first; second = second; place = u }) (decides_precedence first second u) b.precedences

  abbrev pub decided? : ℕ → ℕ → ℕ → Bool
  decided? c e u = standing? c e u || standing? e c u

  pub decides_decided : (c e u : ℕ) → Decides (decided? c e u) (Decided b c e u)
  decides_decided c e u =
      Decides-like _
      (λ h. search rules)
      (λ r. search rules)
      (Decides-or _ _ (decides_standing c e u) (decides_standing e c u))

  abbrev start_of? : ℕ → ℕ → Bool
  start_of? c u = at? (λ (x : BookCarrier). eqb x.start u) (slice_get b.carriers c)

  decides_start_of : (c u : ℕ) → Decides (start_of? c u) (StartOf b c u)
  decides_start_of c u =
      Decides-like _
      (λ r. (r.0.goal, rw (← r.2) r.1))
      (λ r. search rules)
      (decides_at? (λ (x : BookCarrier). eqb x.start u) (λ (x : BookCarrier). x.start ≡ u) (λ x. Decides-eqb x.start u) (slice_get b.carriers c))

  abbrev goal_of? : ℕ → ℕ → Bool
  goal_of? c v = at? (λ (x : BookCarrier). eqb x.goal v) (slice_get b.carriers c)

  decides_goal_of : (c v : ℕ) → Decides (goal_of? c v) (GoalOf b c v)
  decides_goal_of c v =
      Decides-like _
      (λ r. (r.0.start, rw (← r.2) r.1))
      (λ r. search rules)
      (decides_at? (λ (x : BookCarrier). eqb x.goal v) (λ (x : BookCarrier). x.goal ≡ v) (λ x. Decides-eqb x.goal v) (slice_get b.carriers c))

  abbrev start_taken? : ℕ → Bool
  start_taken? u = list_any (λ (x : BookCarrier). eqb x.start u) b.carriers

  decides_start_taken : (u : ℕ) → Decides (start_taken? u) (StartTaken b u)
  decides_start_taken u =
      Decides-like _
      (λ r. (r.0, (r.1.goal, rw (← r.3) r.2)))
      (λ r. search rules)
      (decides_somewhere (λ (x : BookCarrier). eqb x.start u) (λ (x : BookCarrier). x.start ≡ u) (λ x. Decides-eqb x.start u) b.carriers)

  abbrev goal_taken? : ℕ → Bool
  goal_taken? v = list_any (λ (x : BookCarrier). eqb x.goal v) b.carriers

  decides_goal_taken : (v : ℕ) → Decides (goal_taken? v) (GoalTaken b v)
  decides_goal_taken v =
      Decides-like _
      (λ r. (r.0, (r.1.start, rw (← r.3) r.2)))
      (λ r. search rules)
      (decides_somewhere (λ (x : BookCarrier). eqb x.goal v) (λ (x : BookCarrier). x.goal ≡ v) (λ x. Decides-eqb x.goal v) b.carriers)

  abbrev reached_goal? : ℕ → Bool
  reached_goal? c = at? (λ (x : BookCarrier). on_route? c x.goal) (slice_get b.carriers c)

  decides_reached_goal : (c : ℕ) → Decides (reached_goal? c) (ReachedGoal b c)
  decides_reached_goal c =
      Decides-like _
      (λ r. (r.0.goal, (r.0.start, r.1), r.2))
      (λ r. search rules)
      (decides_at? (λ (x : BookCarrier). on_route? c x.goal) (λ (x : BookCarrier). OnRoute b c x.goal) (λ x. decides_on_route c x.goal) (slice_get b.carriers c))

  abbrev unknown? : ℕ → Bool
  unknown? c = leb (length b.carriers) c

  -- each check of a call as a test, with its refusal
  abbrev tests : Call → List (Bool × EntryRefusal)
  tests (enter_carrier start goal) =
      (ltb 4095 start || ltb 4095 goal, PlaceTooHigh)
      ∷ (leb 64 (length b.carriers) || leb 1024 (length b.stops), LimitReached)
      ∷ (start_taken? start || goal_taken? goal, EndTaken)
      ∷ []
  tests (enter_stop c u) =
      (unknown? c, NoCarrier)
      ∷ (ltb 4095 u, PlaceTooHigh)
      ∷ (reached_goal? c, RouteAtGoal)
      ∷ (on_route? c u, PlaceOnRoute)
      ∷ (leb 1024 (length b.stops), LimitReached)
      ∷ []
  tests (enter_precedence first second u) =
      (unknown? first || unknown? second, NoCarrier)
      ∷ (eqb first second, SameCarrier)
      ∷ (not (on_route? first u) || not (on_route? second u), NotOnBothRoutes)
      ∷ (goal_of? first u || start_of? second u, FirstsGoalOrSecondsStart)
      ∷ (decided? first second u, AlreadyDecided)
      ∷ (leb 2048 (length b.precedences), LimitReached)
      ∷ []
  tests (strike_precedence first second u) =
      (unknown? first || unknown? second, NoCarrier)
      ∷ (eqb first second, SameCarrier)
      ∷ (not (standing? first second u), NothingToStrike)
      ∷ []

-- the tests are those of the checks, one by one
abbrev Tested : Checks → List (Bool × EntryRefusal) → Type 0
Tested no_more [] = Unit {0}
Tested no_more (t ∷ ts) = ⊥
Tested (check Applies its_own others) [] = ⊥
Tested (check Applies its_own others) (t ∷ ts) = Decides t.0 Applies × (t.1 ≡ its_own) × Tested others ts

-- an answer by the first check that applies, with this number where none does
abbrev ByChecks : ℕ → Checks → Answer → Type 0
ByChecks n cs (Ok m) = Accepts cs × (m ≡ n)
ByChecks n cs (Err refusal) = Refuses cs refusal

-- the first test that passes refuses
abbrev by_tests : List (Bool × EntryRefusal) → ℕ → Answer
by_tests [] n = Ok n
by_tests (t ∷ ts) n = cond t.0 (Err t.1) (by_tests ts n)

-- a check that does not apply leaves the answer to the others
pass_on : (n : ℕ) (Applies : Type 0) (its_own : EntryRefusal) (cs : Checks) → ¬ Applies → (a : Answer) → ByChecks n cs a → ByChecks n (check Applies its_own cs) a
pass_on n Applies its_own cs never (Ok m) k = search rules
pass_on n Applies its_own cs never (Err r) k = search rules

one_check : (n : ℕ) (Applies : Type 0) (its_own : EntryRefusal) (cs : Checks) (v : Bool) (r : EntryRefusal) (a : Answer) → Decides v Applies → r ≡ its_own → ByChecks n cs a → ByChecks n (check Applies its_own cs) (cond v (Err r) a)
one_check n Applies its_own cs true r a d e k = search rules
one_check n Applies its_own cs false r a d e k = search (rules, pass_on)

by_checks : (n : ℕ) (cs : Checks) (ts : List (Bool × EntryRefusal)) → Tested cs ts → ByChecks n cs (by_tests ts n)
by_checks n no_more [] h = (tt, refl)
by_checks n no_more (t ∷ ts) h = absurd h
by_checks n (check Applies its_own cs) [] h = absurd h
by_checks n (check Applies its_own cs) (t ∷ ts) h = one_check n Applies its_own cs t.0 t.1 (by_tests ts n) h.0 h.1 (by_checks n cs ts h.2)

-- each test says when its check applies
ruleset decided_tests = (Decides-or, Decides-not, Decides-eqb, Decides-ltb, decides_leb, decides_on_route, decides_standing, decides_decided, decides_start_of, decides_goal_of, decides_start_taken, decides_goal_taken, decides_reached_goal)

module _ (b : Book) where
  tested : (call : Call) → Tested (checks b call) (tests b call)
  tested (enter_carrier start goal) = search (rules, decided_tests)
  tested (enter_stop c u) = search (rules, decided_tests)
  tested (enter_precedence first second u) = search (rules, decided_tests)
  tested (strike_precedence first second u) = search (rules, decided_tests)

  -- what the book answers
  abbrev pub answer : Call → Answer
  answer call = by_tests (tests b call) (number b call)

  as_answers : (call : Call) (a : Answer) → ByChecks (number b call) (checks b call) a → Answers b call a
  as_answers call (Ok m) k = k
  as_answers call (Err r) k = k

  pub answers : (call : Call) → Answers b call (answer call)
  answers call = as_answers call (answer call) (by_checks (number b call) (checks b call) (tests b call) (tested call))

  -- the book after a call that is accepted
  abbrev changed : Call → Book
  changed (enter_carrier start goal) = with_carrier b start goal
  changed (enter_stop c u) = with_stop b c u
  changed (enter_precedence first second u) = with_precedence b first second u
  changed (strike_precedence first second u) = without_precedence b (position_or_len (is_precedence first second u) b.precedences)

  changes : (call : Call) → Accepts (checks b call) → Changes b call (changed call)
  changes (enter_carrier start goal) ok = refl
  changes (enter_stop c u) ok = refl
  changes (enter_precedence first second u) ok = refl
  changes (strike_precedence first second u) ok =
      ⊎_elim
      (λ found. let (x, at, is) = first_there (is_precedence first second u) b.precedences found in
      (position_or_len (is_precedence first second u) b.precedences, at ∙ ap Some ((decides_precedence first second u x).0 is), refl))
      (λ none. absurd (ok.1.1.0 (not_from_Decides (standing? b first second u) (decides_standing b first second u) none)))
      (cases_Bool (standing? b first second u))

  -- the book after a call with its answer
  abbrev pub left : Call → Answer → Book
  left call (Ok n) = changed call
  left call (Err refusal) = b

  leaves_so : (call : Call) (a : Answer) → ByChecks (number b call) (checks b call) a → Leaves b call a (left call a)
  leaves_so call (Ok n) k = changes call k.0
  leaves_so call (Err refusal) k = refl

  pub leaves : (call : Call) → Leaves b call (answer call) (left call (answer call))
  leaves call = leaves_so call (answer call) (by_checks (number b call) (checks b call) (tests b call) (tested call))
