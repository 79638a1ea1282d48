-- What the words of a book say, one list at a time: each record stands at one number.
use Rattle.std.proofs.Common.{◌≡◌, ℕ, zero, suc, ◌⊎◌, List, [], ◌∷◌, Some, ap, inl, inr, ⊎_elim, arith}
use Rattle.std.specs.List.{slice_get}
use Rattle.std.proofs.lemmas.Bool.{cases_eq}
use Rattle.std.proofs.lemmas.Option.{none-some, same_Some}
use Rattle.sheet.specs.Book.{BookStop, Book, Visits, OnRoute}

-- a stop is of one carrier, at one place
pub one_visit : (b : Book) (s c u c' u' : ℕ) → Visits b s c u → Visits b s c' u' → (c ≡ c') × (u ≡ u')
one_visit b s c u c' u' p q = grind arith

-- the stop r is one of these
abbrev Among : List BookStop → BookStop → Type 0
Among xs r = (s : ℕ) × (slice_get xs s ≡ Some r)

is_stop : (x r : BookStop) → (x ≡ r) ⊎ (¬ x ≡ r)
is_stop x r = grind (arith, cases_eq x.carrier r.carrier, cases_eq x.place r.place)

among_others : (x r : BookStop) (xs : List BookStop) → (¬ x ≡ r) → Among (x ∷ xs) r → Among xs r
among_others x r xs other (zero, e) = absurd (other (same_Some _ _ e))
among_others x r xs other (suc s, e) = (s, e)

-- whether a place is on a carrier's route can be told
among_or_not : (xs : List BookStop) (r : BookStop) → Among xs r ⊎ (¬ Among xs r)
among_or_not [] r = inr (λ (s, e). none-some _ e)
among_or_not (x ∷ xs) r =
    ⊎_elim
    (λ here. inl (zero, ap Some here))
    (λ other. ⊎_elim (λ (s, e). inl (suc s, e)) (λ never. inr (λ at. never (among_others x r xs other at))) (among_or_not xs r))
    (is_stop x r)

pub on_route_or_not : (b : Book) (c u : ℕ) → OnRoute b c u ⊎ (¬ OnRoute b c u)
on_route_or_not b c u = among_or_not b.stops _
