-- What a sheet says of its book: the facts on which judging builds.
use Rattle.std.proofs.Common.{◌≡◌, ℕ, zero, suc, ◌<◌, ◌≤◌, ◌≢◌, ◌⊎◌, List, length, get_or, Some, None, Option, refl, inl, inr, ⊎_elim, arith, rules}
use mathlib.Core.Logic.{∥∥₁_elim}
use native.Mathlib.Nat.{ℕ_set}
use Rattle.std.specs.List.{slice_get}
use Rattle.std.proofs.lemmas.List.{length-map}
use Rattle.std.proofs.lemmas.Option.{slice_get-get_or, slice_get_within}
use Rattle.sheet.specs.declared.records.Carrier.{Carrier}
use Rattle.sheet.specs.declared.records.Stop.{Stop}
use Rattle.sheet.specs.declared.records.Precedence.{Precedence}
use Rattle.sheet.specs.declared.sheets.Sheet.{Sheet}
use Rattle.sheet.specs.Book.{BookCarrier, Book, Goes, Visits, Stands, StartOf, ReachedGoal, Next, Starts, Latest}
use Rattle.sheet.specs.Records.{book_carrier, book_stop, book_precedence, Numbered, no_stop}
use Rattle.sheet.specs.Sheets.{carriers_of, stops_of, precedences_of, sheet_book}
use Rattle.sheet.specs.Sound.{Sound}
use Rattle.sheet.proofs.Grown
use Rattle.sheet.proofs.SliceGet.{slice_get-map_some, slice_get-map_from}
use Rattle.sheet.proofs.Stable.{sound_held, numbered_held}
use Rattle.sheet.proofs.Told
use Rattle.sheet.proofs.Words

module _ (s : Sheet) where
  abbrev b : Book
  b = sheet_book s

  abbrev cs : List Carrier
  cs = carriers_of s

  abbrev ss : List Stop
  ss = stops_of s

  abbrev ps : List Precedence
  ps = precedences_of s

  -- what always holds of its book
  pub sound_of : Sound b
  sound_of = sound_held b s.sound

  -- its limits
  pub few_carriers : length cs ≤ 64
  few_carriers = rw (← length-map cs book_carrier) sound_of.few_carriers

  pub few_stops : length ss ≤ 1024
  few_stops = rw (← length-map ss book_stop) sound_of.few_stops

  pub few_precedences : length ps ≤ 2048
  few_precedences = rw (← length-map ps book_precedence) sound_of.few_precedences

  -- the numbers of stops that its records keep are right
  pub numbered_of : Numbered cs ss ps
  numbered_of = numbered_held cs ss ps s.numbered

  -- a record and what the book says
  pub goes_of : (c : ℕ) (x : Carrier) → slice_get cs c ≡ Some x → Goes b c x.start x.goal
  goes_of c x e = slice_get-map_some book_carrier cs c x e

  pub goes_from : (c u v : ℕ) → Goes b c u v → (x : Carrier) × (slice_get cs c ≡ Some x) × (x.start ≡ u) × (x.goal ≡ v)
  goes_from c u v g = search (rules, slice_get-map_from)

  pub visits_of : (t : ℕ) (x : Stop) → slice_get ss t ≡ Some x → Visits b t x.carrier x.place
  visits_of t x e = Grown.visits_of cs ss ps t x e

  pub visits_from : (t c u : ℕ) → Visits b t c u → (x : Stop) × (slice_get ss t ≡ Some x) × (x.carrier ≡ c) × (x.place ≡ u)
  visits_from t c u v = Grown.visits_from cs ss ps t c u v

  pub stands_of : (k : ℕ) (x : Precedence) → slice_get ps k ≡ Some x → Stands b k x.first x.second x.place
  stands_of k x e = slice_get-map_some book_precedence ps k x e

  pub stands_from : (k first second u : ℕ) → Stands b k first second u → (x : Precedence) × (slice_get ps k ≡ Some x) × (x.first ≡ first) × (x.second ≡ second) × (x.place ≡ u)
  stands_from k first second u p = search (rules, slice_get-map_from)

  -- a stop is of one carrier at one place, and a carrier stops at a place once
  pub one_visit : (t c u e v : ℕ) → Visits b t c u → Visits b t e v → (c ≡ e) × (u ≡ v)
  one_visit t c u e v p q = Words.one_visit b t c u e v p q

  pub visits_once : (c t r u : ℕ) → Visits b t c u → Visits b r c u → t ≡ r
  visits_once c t r u p q = sound_of.once c t r u p q

  pub visits_within : (t c u : ℕ) → Visits b t c u → t < length ss
  visits_within t c u v = Grown.visits_within cs ss ps t c u v

  -- the carrier's latest stop
  pub latest_of : (c : ℕ) (x : Carrier) → slice_get cs c ≡ Some x → Latest b c x.last_stop x.last_place
  latest_of c x e = numbered_of.latest c x e

  -- a route that has reached its goal ends there, and one that has not has no stop there
  pub stops_at_goal : (c : ℕ) (x : Carrier) → slice_get cs c ≡ Some x → x.last_place ≡ x.goal → Visits b x.last_stop c x.goal
  stops_at_goal c x e q = rw q at (latest_of c x e).here

  pub no_stop_at_goal : (c : ℕ) (x : Carrier) → slice_get cs c ≡ Some x → x.last_place ≢ x.goal → (t : ℕ) → ¬ Visits b t c x.goal
  no_stop_at_goal c x e other t v =
      other (Told.at_goal b sound_of c _ _ _ _ (goes_of c x e) (latest_of c x e) (x.goal, (x.start, goes_of c x e), (t, v)))

  -- the stop before a stop is its previous one
  pub previous_next : (t p : ℕ) (x : Stop) → slice_get ss t ≡ Some x → x.previous ≡ Some p → (y : Stop) × (slice_get ss p ≡ Some y) × Next b x.carrier p y.place t x.place
  previous_next t p x e q =
      let l = numbered_of.earlier t p x e q in
      let m = slice_get_within ss t x e in
      let at = slice_get-get_or ss p no_stop (omega arith) in
      (_, at, numbered_of.previous t p x _ e q at)

  some_or_none : (o : Option ℕ) → (o ≡ None) ⊎ ((p : ℕ) × (o ≡ Some p))
  some_or_none None = inl refl
  some_or_none (Some p) = inr (p, refl)

  -- a stop is its carrier's first, with none before it, or follows its previous one
  before : (t : ℕ) (x : Stop) → slice_get ss t ≡ Some x → ((x.previous ≡ None) × Starts b x.carrier t x.place) ⊎ ((p u : ℕ) × (x.previous ≡ Some p) × Next b x.carrier p u t x.place)
  before t x e =
      ⊎_elim
      (λ q. inl (q, numbered_of.starts t x e q))
      (λ (p, q). let y = previous_next t p x e q in inr (p, y.0.place, q, y.2))
      (some_or_none x.previous)

  -- a stop follows one stop, and a carrier has one first stop
  pub one_next : (c p u r w t v : ℕ) → Next b c p u t v → Next b c r w t v → p ≡ r
  one_next c p u r w t v on in' = grind arith

  pub one_start : (c t u r w : ℕ) → Starts b c t u → Starts b c r w → (t ≡ r) × (u ≡ w)
  one_start c t u r w at by = grind (arith, one_visit)

  -- the record of a stop keeps the one before it
  pub next_previous : (c p u t v : ℕ) (x : Stop) → slice_get ss t ≡ Some x → Next b c p u t v → x.previous ≡ Some p
  next_previous c p u t v x e on =
      grind (arith, before t x e, one_visit t x.carrier x.place c v (visits_of t x e) on.there, one_next)

  -- a stop is its carrier's first, or follows one
  pub first_or_next : (t c v : ℕ) → Visits b t c v → Starts b c t v ⊎ ((p u : ℕ) × Next b c p u t v)
  first_or_next t c v z = let x = visits_from t c v z in grind (arith, x, before t x.0 x.1)

  -- a stop that is not its carrier's latest has a next one
  next_below : (c a u : ℕ) → Visits b a c u → (n t v : ℕ) → t < n → a < t → Visits b t c v → (r w : ℕ) × Next b c a u r w
  next_below c a u at zero t v l m z = absurd (omega arith)
  next_below c a u at (suc n) t v l m z =
      grind (arith, first_or_next t c v z, one_visit, next_below c a u at n)

  pub has_next : (c a u t v : ℕ) → Visits b a c u → Visits b t c v → a < t → (r w : ℕ) × Next b c a u r w
  has_next c a u t v at z l = next_below c a u at (suc t) t v (omega arith) l z

  -- the first stop of a carrier is at its start
  pub starts_at_start : (c t w u : ℕ) → Starts b c t w → StartOf b c u → w ≡ u
  starts_at_start c t w u at g =
      ∥∥₁_elim (sound_of.begins c u g) (ℕ_set w u) (λ (x : (r : ℕ) × Starts b c r u). (one_start c t w x.0 u at x.1).1)

  -- a carrier that stops somewhere is on the sheet
  pub goes : (t c u : ℕ) → Visits b t c u → (v w : ℕ) × Goes b c v w
  goes t c u z =
      let l = sound_of.known t c u z in
      let none : BookCarrier = record { start = 0; goal = 0 } in
      ((get_or b.carriers c none).start, (get_or b.carriers c none).goal, slice_get-get_or b.carriers c none l)

  -- what a standing precedence says: two carriers, which both stop at the place, by the numbers that its record keeps
  pub two_carriers : (k first second u : ℕ) → Stands b k first second u → first ≢ second
  two_carriers k first second u p = sound_of.two k first second u p

  pub first_visits : (k : ℕ) (x : Precedence) → slice_get ps k ≡ Some x → Visits b x.first_stop x.first x.place
  first_visits k x e = numbered_of.first_stop k x e

  pub second_visits : (k : ℕ) (x : Precedence) → slice_get ps k ≡ Some x → Visits b x.second_stop x.second x.place
  second_visits k x e = numbered_of.second_stop k x e

  -- the second came from another stop
  pub second_follows : (k first second u r : ℕ) → Stands b k first second u → Visits b r second u → (p w : ℕ) × Next b second p w r u
  second_follows k first second u r stands z =
      ⊎_elim
      (λ at. let g = goes r second u z in absurd (grind (arith, starts_at_start second r u g.0 at (g.1, g.2), sound_of.not_start k first second u stands)))
      (λ on. on)
      (first_or_next r second u z)

  -- the first goes on to another stop, once its route has reached its goal
  pub first_goes_on : (k first second u r : ℕ) → Stands b k first second u → Visits b r first u → ReachedGoal b first → (t v : ℕ) × Next b first r u t v
  first_goes_on k first second u r stands z reached = grind (arith, one_visit, has_next, sound_of.not_goal, sound_of.ends)
