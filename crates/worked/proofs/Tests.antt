-- Tests of a whole book: that it is complete and orderly, and what is lowest in a list of pairs.
use Rattle.std.proofs.Common.{◌≡◌, ℕ, Bool, true, not, ◌&&◌, ◌||◌, eqb, ltb, leb, ◌≢◌, List, is_some, Some, None, Decides, Option, refl, subst₂, arith, rules}
use mathlib.Core.Path.{subst₃}
use Rattle.std.specs.List.{list_any, list_all}
use Rattle.std.proofs.lemmas.Bool.{and_parts, false≢true}
use Rattle.std.proofs.lemmas.Bool.Decides.{nat_tests}
use Rattle.sheet.specs.Book.{BookCarrier, Book, Visits, Stands, GoalOf, Decided, Next}
use Rattle.plan.specs.Plans.{Lanes, Leg, Complete}
use Rattle.plan.specs.Theorems.{Orderly}
use Rattle.judge.specs.Lowest.{LowestPair}
use Rattle.worked.proofs.Lists.{Exactly, each_passes, decides_some, numbered, exactly_numbered, pairs, exactly_pairs}
use Rattle.worked.proofs.Entries.{on_route?, decides_on_route, decided?, decides_decided}
use Rattle.worked.proofs.Steps.{AStop, APrecedence, ALeg, Step, IsLeg, decided_numbers, visits, exactly_visits, standing, exactly_standing, exactly_two, steps, exactly_steps, legs, exactly_legs}

some_there : (o : Option ℕ) → is_some o ≡ true → (d : ℕ) × (o ≡ Some d)
some_there None h = absurd (false≢true h)
some_there (Some d) h = (d, refl)

module _ (lanes : Lanes) (b : Book) where
  -- every route has reached its goal
  abbrev pub home? : Bool
  home? = list_all (λ (k : ℕ × BookCarrier). on_route? b k.0 k.1.goal) (numbered b.carriers)

  pub home : home? ≡ true → (c v : ℕ) → GoalOf b c v → (s : ℕ) × Visits b s c v
  home h c v g =
      (decides_on_route b c v).0
      (each_passes _ (exactly_numbered b.carriers) h (c, record { start = g.0; goal = v }) g.1)

  -- every step is a lane
  abbrev pub on_lanes? : Bool
  on_lanes? = list_all (λ (z : Step). is_some (lanes z.u z.v)) (steps b)

  pub on_lanes : on_lanes? ≡ true → (c s u t v : ℕ) → Next b c s u t v → (d : ℕ) × (lanes u v ≡ Some d)
  on_lanes h c s u t v n =
      some_there (lanes u v)
      (each_passes _ (exactly_steps b) h (record { c = c; s = s; u = u; t = t; v = v }) n)

  -- every meeting is decided
  abbrev settled? : AStop × AStop → Bool
  settled? p = eqb p.0.1.carrier p.1.1.carrier || (not (eqb p.0.1.place p.1.1.place) || decided? b p.0.1.carrier p.1.1.carrier p.0.1.place)

  abbrev all_decided? : Bool
  all_decided? = list_all settled? (pairs (visits b) (visits b))

  all_decided : all_decided? ≡ true → (c e s r u : ℕ) → c ≢ e → Visits b s c u → Visits b r e u → Decided b c e u
  all_decided h c e s r u other here there =
      let p : AStop × AStop = ((s, record { carrier = c; place = u }), (r, record { carrier = e; place = u })) in
      let passes = each_passes _ (exactly_two b) h p (here, there) in
      (decides_decided b c e u).0 (grind (arith, nat_tests))

  -- who goes first and who goes second differ
  abbrev differ? : Bool
  differ? = list_all (λ (k : APrecedence). not (eqb k.1.first k.1.second)) (standing b)

  differ : differ? ≡ true → (k first second u : ℕ) → Stands b k first second u → first ≢ second
  differ d k first second u stands =
      let passes = each_passes (λ (p : APrecedence). not (eqb p.1.first p.1.second)) (exactly_standing b) d (k, record { first = first; second = second; place = u }) stands in
      grind (arith, nat_tests)

  -- a leg of the first carrier's begins at its stop
  abbrev Begins : APrecedence × AStop → ALeg → Type 0
  Begins p l = (l.0.c ≡ p.0.1.first) × ((l.0.s ≡ p.1.0) × (l.0.u ≡ p.0.1.place))

  abbrev begins? : APrecedence × AStop → ALeg → Bool
  begins? p l = eqb l.0.c p.0.1.first && (eqb l.0.s p.1.0 && eqb l.0.u p.0.1.place)

  -- who goes first goes on
  abbrev goes? : APrecedence × AStop → Bool
  goes? p = not (eqb p.1.1.carrier p.0.1.first && eqb p.1.1.place p.0.1.place) || list_any (begins? p) (legs b lanes)

  abbrev goes_on? : Bool
  goes_on? = list_all goes? (pairs (standing b) (visits b))

  decides_begins : (p : APrecedence × AStop) → Decides (list_any (begins? p) (legs b lanes)) ((l : ALeg) × IsLeg b lanes l × Begins p l)
  decides_begins p = decides_some (Begins p) (begins? p) (exactly_legs b lanes) (λ l. search (rules, decided_numbers))

  goes_on : goes_on? ≡ true → (k first second u s : ℕ) → Stands b k first second u → Visits b s first u → (t v d : ℕ) × Leg lanes b first s u t v d
  goes_on h k first second u s stands visit =
      let p : APrecedence × AStop = ((k, record { first = first; second = second; place = u }), (s, record { carrier = first; place = u })) in
      let passes = each_passes _ (exactly_pairs (exactly_standing b) (exactly_visits b)) h p (stands, visit) in
      let l = (decides_begins p).0 (grind (arith, nat_tests)) in
      (l.0.0.t, l.0.0.v, l.0.1, subst₃ (λ (c s u : ℕ). Leg lanes b c s u l.0.0.t l.0.0.v l.0.1) l.2.0 l.2.1.0 l.2.1.1 l.1)

  -- a complete and orderly book
  abbrev pub whole? : Bool
  whole? = (home? && (on_lanes? && all_decided?)) && (differ? && goes_on?)

  pub whole : whole? ≡ true → Complete lanes b × Orderly lanes b
  whole h =
      let p = and_parts _ _ h in
      let q = and_parts _ _ p.0 in
      let r = and_parts _ _ q.1 in
      let s = and_parts _ _ p.1 in
      (record { home = home q.0; on_lanes = on_lanes r.0; decided = all_decided r.1 }, record { differ = differ s.0; goes_on = goes_on s.1 })

-- the pair (s, t) is in the list, and none in it is lower
abbrev is_pair : ℕ → ℕ → ℕ × ℕ → Bool
is_pair s t n = eqb n.0 s && eqb n.1 t

abbrev not_lower : ℕ → ℕ → ℕ × ℕ → Bool
not_lower s t n = ltb s n.0 || (eqb n.0 s && leb t n.1)

abbrev pub lowest? : List (ℕ × ℕ) → ℕ → ℕ → Bool
lowest? xs s t = list_any (is_pair s t) xs && list_all (not_lower s t) xs

pub lowest : (P : ℕ → ℕ → Type 0) (xs : List (ℕ × ℕ)) → Exactly (λ (n : ℕ × ℕ). P n.0 n.1) xs → (s t : ℕ) → lowest? xs s t ≡ true → LowestPair P s t
lowest P xs l s t h =
    let p = and_parts (list_any (is_pair s t) xs) (list_all (not_lower s t) xs) h in
    let at = (decides_some (λ (n : ℕ × ℕ). (n.0 ≡ s) × (n.1 ≡ t)) (is_pair s t) l (λ n. grind (arith, nat_tests))).0 p.0 in
    let low = each_passes _ l p.1 in
    (subst₂ P at.2.0 at.2.1 at.1, λ r q m k. let passes = low (r, q) k in grind (arith, nat_tests), λ q m k. let passes = low (s, q) k in grind (arith, nat_tests))
