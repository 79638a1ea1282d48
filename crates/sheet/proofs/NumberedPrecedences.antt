-- The numbers of stops that the records keep stay right when a precedence is entered or struck.
use Rattle.std.proofs.Common.{◌≡◌, ℕ, ◌<◌, List, [], ◌∷◌, ◌++◌, length, Some, arith}
use Rattle.std.specs.List.{remove, slice_get}
use Rattle.sheet.specs.declared.records.Carrier.{Carrier}
use Rattle.sheet.specs.declared.records.Stop.{Stop}
use Rattle.sheet.specs.declared.records.Precedence.{Precedence}
use Rattle.sheet.specs.Book.{Visits}
use Rattle.sheet.specs.Records.{book_from, Numbered}
use Rattle.sheet.proofs.SliceGet.{slice_get-push_cases, slice_get-remove}

module _ (cs : List Carrier) (ss : List Stop) (ps : List Precedence) (right : Numbered cs ss ps) where
  abbrev AtItsStops : Precedence → Type 0
  AtItsStops x = Visits (book_from cs ss ps) x.first_stop x.first x.place × Visits (book_from cs ss ps) x.second_stop x.second x.place

  -- other precedences, whose stops are right
  numbered_others : (ps' : List Precedence) → ((k : ℕ) (x : Precedence) → slice_get ps' k ≡ Some x → AtItsStops x) → Numbered cs ss ps'
  numbered_others ps' stops = record {
    latest = λ c x e. let at = right.latest c x e in record { here = at.here; last = at.last };
    earlier = right.earlier;
    previous = λ s p x y e q f. let on = right.previous s p x y e q f in record { here = on.here; there = on.there; later = on.later; none_between = on.none_between };
    starts = λ s x e q. let at = right.starts s x e q in record { here = at.here; first = at.first };
    first_stop = λ k x e. (stops k x e).0;
    second_stop = λ k x e. (stops k x e).1;
  }

  pub numbered_precedence : (y : Precedence) → AtItsStops y → Numbered cs ss (ps ++ y ∷ [])
  numbered_precedence y new = numbered_others (ps ++ y ∷ [])
      (λ k x e. grind (arith, slice_get-push_cases ps y x k e, right.first_stop k x, right.second_stop k x))

  pub numbered_strike : (k : ℕ) → k < length ps → Numbered cs ss (remove ps k)
  numbered_strike k within = numbered_others (remove ps k)
      (λ i x e. let o = slice_get-remove ps k i x e within in (right.first_stop o.0 x o.1, right.second_stop o.0 x o.1))
