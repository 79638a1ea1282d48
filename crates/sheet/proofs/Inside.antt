-- Each number in a record is one of a record that stands.
use Rattle.std.proofs.Common.{List, length, arith}
use Rattle.std.proofs.lemmas.List.{length-map}
use Rattle.std.proofs.lemmas.Option.{slice_get-get_or}
use Rattle.sheet.specs.declared.records.Carrier.{Carrier}
use Rattle.sheet.specs.declared.records.Stop.{Stop}
use Rattle.sheet.specs.declared.records.Precedence.{Precedence}
use Rattle.sheet.specs.declared.sheets.Tables.{Tables}
use Rattle.sheet.specs.Records.{book_carrier, no_carrier, no_stop, no_precedence}
use Rattle.sheet.specs.Sound.{Sound}
use Rattle.sheet.specs.Tables.{book_of, NumberedTables, CarriersInside, StopsInside, Linked, PrecedencesInside}
use Rattle.sheet.proofs.Grown.{visits_of, visits_within}

module _ (t : Tables) (sound : Sound (book_of t)) (right : NumberedTables t) where
  abbrev cs : List Carrier
  cs = t.carriers

  abbrev ss : List Stop
  ss = t.stops

  abbrev ps : List Precedence
  ps = t.precedences

  pub carriers_inside : CarriersInside (length t.stops) cs
  carriers_inside k l = visits_within cs ss ps _ _ _ (right.latest k _ (slice_get-get_or cs k no_carrier l)).here

  pub stops_inside : StopsInside (length t.carriers) ss
  stops_inside k l = grind (arith, sound.known k _ _ (visits_of cs ss ps k _ (slice_get-get_or ss k no_stop l)), length-map t.carriers book_carrier)

  pub stops_linked : Linked ss
  stops_linked k p l e = right.earlier k p _ (slice_get-get_or ss k no_stop l) e

  pub precedences_inside : PrecedencesInside (length t.carriers) (length t.stops) ps
  precedences_inside k l =
      let at = slice_get-get_or ps k no_precedence l in
      let one = right.first_stop k _ at in
      let two = right.second_stop k _ at in
      let n = length-map t.carriers book_carrier in
      let a = sound.known _ _ _ one in
      let b = sound.known _ _ _ two in
      let c = visits_within cs ss ps _ _ _ one in
      let d = visits_within cs ss ps _ _ _ two in
      (omega arith, omega arith, omega arith, omega arith)
