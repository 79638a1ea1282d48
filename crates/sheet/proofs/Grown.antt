-- The words of a book: read off the records, and after one more stop.
use Rattle.std.proofs.Common.{◌≡◌, ℕ, ◌<◌, ◌⊎◌, List, [], ◌∷◌, ◌++◌, map, length, Some, sym, arith, rules}
use Rattle.std.specs.List.{slice_get}
use Rattle.std.proofs.lemmas.List.{length-map, map-append}
use Rattle.std.proofs.lemmas.Option.{slice_get_within}
use Rattle.std.proofs.iter.runs.Lists.{nth_seam}
use Rattle.sheet.specs.declared.records.Carrier.{Carrier}
use Rattle.sheet.specs.declared.records.Stop.{Stop}
use Rattle.sheet.specs.declared.records.Precedence.{Precedence}
use Rattle.sheet.specs.Book.{BookStop, Book, Visits, Next, Starts, Latest}
use Rattle.sheet.specs.Records.{book_stop, book_from}
use Rattle.sheet.proofs.SliceGet.{slice_get-push, slice_get-push_cases, slice_get-map_some, slice_get-map_from}

module _ (cs : List Carrier) (ss : List Stop) (ps : List Precedence) where
  pub visits_of : (s : ℕ) (x : Stop) → slice_get ss s ≡ Some x → Visits (book_from cs ss ps) s x.carrier x.place
  visits_of s x e = slice_get-map_some book_stop ss s x e

  pub visits_from : (s c u : ℕ) → Visits (book_from cs ss ps) s c u → (x : Stop) × (slice_get ss s ≡ Some x) × (x.carrier ≡ c) × (x.place ≡ u)
  visits_from s c u v = search (rules, slice_get-map_from)

  -- the record of a stop is of its carrier, at its place
  pub visits_at : (s c u : ℕ) (x : Stop) → slice_get ss s ≡ Some x → Visits (book_from cs ss ps) s c u → (x.carrier ≡ c) × (x.place ≡ u)
  visits_at s c u x e v = grind (arith, visits_of s x e)

  pub visits_within : (s c u : ℕ) → Visits (book_from cs ss ps) s c u → s < length ss
  visits_within s c u v = grind (arith, slice_get_within (map book_stop ss), length-map)

-- the book b' has one more stop than b, at number n
pub record OneMoreStop (b b' : Book) (n : ℕ) (y : BookStop) : Type 0 where
  pub number : n ≡ length b.stops
  pub stops : b'.stops ≡ b.stops ++ y ∷ []

module _ {b b' : Book} {n : ℕ} {y : BookStop} (more : OneMoreStop b b' n y) where
  pub visits_kept : (s c u : ℕ) → Visits b s c u → Visits b' s c u
  visits_kept s c u v = rw more.stops (slice_get-push b.stops y _ s v)

  pub visits_new : Visits b' n y.carrier y.place
  visits_new = rw (more.stops, more.number) (nth_seam b.stops y)

  pub visits_cases : (s c u : ℕ) → Visits b' s c u → Visits b s c u ⊎ ((s ≡ n) × (y.carrier ≡ c) × (y.place ≡ u))
  visits_cases s c u v = grind (arith, more.number, slice_get-push_cases b.stops y _ s (rw more.stops at v))

  pub starts_kept : (c s u : ℕ) → Starts b c s u → Starts b' c s u
  starts_kept c s u at = record {
    here = visits_kept s c u at.here;
    first = λ r w l v. grind (arith, more.number, visits_cases r c w v, slice_get_within b.stops s _ at.here);
  }

  pub next_kept : (c s u t v : ℕ) → Next b c s u t v → Next b' c s u t v
  next_kept c s u t v on = record {
    here = visits_kept s c u on.here;
    there = visits_kept t c v on.there;
    later = on.later;
    none_between = λ r w l m z. grind (arith, more.number, visits_cases r c w z, slice_get_within b.stops t _ on.there);
  }

  -- of another carrier than the new stop's
  pub latest_kept : (c s u : ℕ) → (¬ y.carrier ≡ c) → Latest b c s u → Latest b' c s u
  latest_kept c s u other at = search (rules, visits_kept, visits_cases)

  -- the new stop is its carrier's latest
  pub latest_new : Latest b' y.carrier n y.place
  latest_new = record { here = visits_new; last = λ r w l v. grind (arith, more.number, visits_cases r y.carrier w v, slice_get_within b.stops r) }

-- a book of records, with the record of one more stop
pub one_more_stop : (cs cs' : List Carrier) (ss : List Stop) (y : Stop) (ps ps' : List Precedence) → OneMoreStop (book_from cs ss ps) (book_from cs' (ss ++ y ∷ []) ps') (length ss) (book_stop y)
one_more_stop cs cs' ss y ps ps' = record { number = sym (length-map ss book_stop); stops = map-append book_stop ss (y ∷ []) }
