-- What a sheet carries, at its opening and after each call.
use Rattle.std.proofs.Common.{◌≡◌, [], length, rules}
use Rattle.std.proofs.lemmas.Option.{none-some}
use Rattle.sheet.specs.declared.sheets.Tables.{Tables}
use Rattle.sheet.specs.Book.{Book, opened}
use Rattle.sheet.specs.Records.{book_from, Numbered}
use Rattle.sheet.specs.Sound.{Sound, Holds}
use Rattle.sheet.specs.Tables.{book_of, NumberedTables, CarriersInside, StopsInside, Linked, PrecedencesInside}
use Rattle.sheet.proofs.Inside.{carriers_inside, stops_inside, stops_linked, precedences_inside}
use Rattle.sheet.proofs.Soundness.{sound_opened}

-- the ghost fields of a sheet
pub record Carries (t : Tables) : Type 0 where
  pub sound : Holds (Sound (book_of t))
  pub numbered : Holds (NumberedTables t)
  pub latest : CarriersInside (length t.stops) t.carriers
  pub carried : StopsInside (length t.carriers) t.stops
  pub linked : Linked t.stops
  pub lawful : PrecedencesInside (length t.carriers) (length t.stops) t.precedences

pub carries : (t : Tables) (b : Book) → book_of t ≡ b → Sound b → NumberedTables t → Carries t
carries t b is sound right =
    let held : Sound (book_of t) = rw is sound in
    record {
      sound = ∣ held ∣₁;
      numbered = ∣ right ∣₁;
      latest = carriers_inside t held right;
      carried = stops_inside t held right;
      linked = stops_linked t held right;
      lawful = precedences_inside t held right;
    }

numbered_none : Numbered [] [] []
numbered_none = search (rules, none-some)

-- tables with nothing in them
module _ (t : Tables) (no_carriers : t.carriers ≡ []) (no_stops : t.stops ≡ []) (no_precedences : t.precedences ≡ []) where
  pub book_opened : book_of t ≡ opened
  book_opened = λ i. book_from (no_carriers i) (no_stops i) (no_precedences i)

  pub carries_opened : Carries t
  carries_opened = carries t opened book_opened sound_opened (rw (no_carriers, no_stops, no_precedences) numbered_none)
