-- What a search by key says of the book.
use Rattle.std.proofs.Common.{◌≡◌, ℕ, ◌↔◌, List, [], ◌∷◌, get_or, is_some, Some, None, Option, Any, IsTrue, refl, ap, ◌∙◌, arith, rules, MatchOption}
use Rattle.std.specs.List.{slice_get}
use Rattle.std.proofs.lemmas.Option.{slice_get-get_or, slice_get_within, get_or_from_slice_get}
use Rattle.std.proofs.lemmas.Bool.{false≢true}
use Rattle.keyed.specs.Search.{Nowhere, First}
use Rattle.sheet.specs.declared.records.Carrier.{Carrier}
use Rattle.sheet.specs.declared.records.Stop.{Stop}
use Rattle.sheet.specs.declared.records.Precedence.{Precedence}
use Rattle.sheet.specs.declared.records.Start.{Start}
use Rattle.sheet.specs.declared.records.Goal.{Goal}
use Rattle.sheet.specs.declared.records.Visit.{Visit}
use Rattle.sheet.specs.declared.records.Order.{Order}
use Rattle.sheet.specs.declared.sheets.Tables.{Tables}
use Rattle.sheet.specs.Book.{Visits, Stands, StartOf, GoalOf, OnRoute}
use Rattle.sheet.specs.Calls.{StartTaken, GoalTaken, Standing}
use Rattle.sheet.specs.Records.{book_carrier}
use Rattle.sheet.specs.Tables.{book_of}
use Rattle.sheet.proofs.SliceGet.{slice_get-map_some, slice_get-map_from}

module _ {R K : Type 0} (key : R → K) (wanted : K) where
  -- the record at a number has the wanted key
  abbrev pub HasKey : List R → ℕ → Type 0
  HasKey xs i = (x : R) × (slice_get xs i ≡ Some x) × (key x ≡ wanted)

  found_record : (xs : List R) (i : ℕ) → First key wanted xs i → HasKey xs i
  found_record [] i f = absurd (omega (arith, f.0))
  found_record (x ∷ xs) i f = (get_or (x ∷ xs) i x, slice_get-get_or (x ∷ xs) i x f.0, f.1 x)

  nowhere_record : (xs : List R) → Nowhere key wanted xs → (i : ℕ) → ¬ HasKey xs i
  nowhere_record xs none i (x, e, q) =
      none i x (omega arith) (slice_get_within xs i x e) (ap key (get_or_from_slice_get xs i x x e) ∙ q)

  any_has_key : (xs : List R) → Any (λ x. key x ≡ wanted) xs → (i : ℕ) × HasKey xs i
  any_has_key xs any = search (rules, slice_get-get_or)

  any_from_key : (xs : List R) (i : ℕ) → HasKey xs i → Any (λ x. key x ≡ wanted) xs
  any_from_key xs i (x, e, q) = search (rules, slice_get_within, get_or_from_slice_get)

  -- something is found just when a record has the key
  pub has_told : (r : Option ℕ) (xs : List R) → MatchOption r (Nowhere key wanted xs) (First key wanted xs) → IsTrue (is_some r) ↔ Any (λ x. key x ≡ wanted) xs
  has_told None xs none = (
    λ q. absurd (false≢true q),
    λ any. let k = any_has_key xs any in absurd (nowhere_record xs none k.0 k.1),
  )
  has_told (Some i) xs f = (λ _. any_from_key xs i (found_record xs i f), λ _. refl)

  -- the same in the words of the book, where In says that the record at a number has the key
  module _ (xs : List R) (In : ℕ → Type 0) (told : (i : ℕ) → HasKey xs i ↔ In i) where
    any_told : Any (λ x. key x ≡ wanted) xs ↔ ((i : ℕ) × In i)
    any_told = (
      λ any. let k = any_has_key xs any in (k.0, (told k.0).0 k.1),
      λ (i, at). any_from_key xs i ((told i).1 at),
    )

    find_told : (r : Option ℕ) → MatchOption r (Nowhere key wanted xs) (First key wanted xs) → MatchOption r (¬ ((i : ℕ) × In i)) In
    find_told None none = λ (i, at). nowhere_record xs none i ((told i).1 at)
    find_told (Some i) f = (told i).0 (found_record xs i f)

-- the keys of a record
abbrev start_key : Carrier → Start
start_key x = record { 0 = x.start }

abbrev goal_key : Carrier → Goal
goal_key x = record { 0 = x.goal }

abbrev visit_key : Stop → Visit
visit_key x = record { carrier = x.carrier; place = x.place }

abbrev order_key : Precedence → Order
order_key x = record { first = x.first; second = x.second; place = x.place }

module _ (t : Tables) where
  start_told : (c u : ℕ) → HasKey start_key (record { 0 = u }) t.carriers c ↔ StartOf (book_of t) c u
  start_told c u = (
    λ (x, e, q). (x.goal, grind (arith, slice_get-map_some book_carrier t.carriers c x e)),
    λ by. search (rules, slice_get-map_from),
  )

  goal_told : (c v : ℕ) → HasKey goal_key (record { 0 = v }) t.carriers c ↔ GoalOf (book_of t) c v
  goal_told c v = (
    λ (x, e, q). (x.start, grind (arith, slice_get-map_some book_carrier t.carriers c x e)),
    λ by. search (rules, slice_get-map_from),
  )

  visit_told : (s c u : ℕ) → HasKey visit_key (record { carrier = c; place = u }) t.stops s ↔ Visits (book_of t) s c u
  visit_told s c u = (λ (x, e, q). search (rules, slice_get-map_some), λ v. search (rules, slice_get-map_from))

  order_told : (k c e u : ℕ) → HasKey order_key (record { first = c; second = e; place = u }) t.precedences k ↔ Stands (book_of t) k c e u
  order_told k c e u = (λ (x, at, q). search (rules, slice_get-map_some), λ p. search (rules, slice_get-map_from))

  -- some record with the key
  pub start_taken : (u : ℕ) → Any (λ x. start_key x ≡ record { 0 = u }) t.carriers ↔ StartTaken (book_of t) u
  start_taken u = any_told start_key _ t.carriers (λ c. StartOf (book_of t) c u) (λ c. start_told c u)

  pub goal_taken : (v : ℕ) → Any (λ x. goal_key x ≡ record { 0 = v }) t.carriers ↔ GoalTaken (book_of t) v
  goal_taken v = any_told goal_key _ t.carriers (λ c. GoalOf (book_of t) c v) (λ c. goal_told c v)

  pub on_route : (c u : ℕ) → Any (λ x. visit_key x ≡ record { carrier = c; place = u }) t.stops ↔ OnRoute (book_of t) c u
  on_route c u = any_told visit_key _ t.stops (λ s. Visits (book_of t) s c u) (λ s. visit_told s c u)

  pub standing : (c e u : ℕ) → Any (λ x. order_key x ≡ record { first = c; second = e; place = u }) t.precedences ↔ Standing (book_of t) c e u
  standing c e u = any_told order_key _ t.precedences (λ k. Stands (book_of t) k c e u) (λ k. order_told k c e u)

  -- what a search tells
  pub stop_found : (r : Option ℕ) (c u : ℕ) → MatchOption r (Nowhere visit_key (record { carrier = c; place = u }) t.stops) (First visit_key (record { carrier = c; place = u }) t.stops) → MatchOption r (¬ OnRoute (book_of t) c u) (λ s. Visits (book_of t) s c u)
  stop_found r c u = find_told visit_key _ t.stops (λ s. Visits (book_of t) s c u) (λ s. visit_told s c u) r

  pub precedence_found : (r : Option ℕ) (c e u : ℕ) → MatchOption r (Nowhere order_key (record { first = c; second = e; place = u }) t.precedences) (First order_key (record { first = c; second = e; place = u }) t.precedences) → MatchOption r (¬ Standing (book_of t) c e u) (λ k. Stands (book_of t) k c e u)
  precedence_found r c e u = find_told order_key _ t.precedences (λ k. Stands (book_of t) k c e u) (λ k. order_told k c e u) r
