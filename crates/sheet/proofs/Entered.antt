-- The book after each accepted call, and what the sheet then carries.
use Rattle.std.proofs.Common.{◌≡◌, ℕ, ◌<◌, [], ◌∷◌, ◌++◌, List, map, length, slice_index_or, set, Some, None, arith}
use Rattle.std.specs.List.{remove, slice_get}
use Rattle.std.proofs.lemmas.Grind.{common_steps}
use Rattle.std.proofs.lemmas.List.{length-map}
use Rattle.std.proofs.lemmas.List.Edits.{length-remove}
use Rattle.std.proofs.lemmas.Option.{get_or_from_slice_get, slice_get_within}
use Rattle.std.proofs.Math.Seq.{map-set_same}
use Rattle.sheet.specs.declared.records.Carrier.{Carrier}
use Rattle.sheet.specs.declared.records.Precedence.{Precedence}
use Rattle.sheet.specs.declared.sheets.Tables.{Tables}
use Rattle.sheet.specs.Book.{Visits}
use Rattle.sheet.specs.Calls.{Accepts, checks, with_carrier, with_stop, with_precedence, without_precedence}
use Rattle.sheet.specs.Calls.Call.{enter_carrier, enter_stop, enter_precedence}
use Rattle.sheet.specs.Records.{book_carrier, book_precedence, gone_on, no_carrier}
use Rattle.sheet.specs.Sound.{Sound, Holds}
use Rattle.sheet.specs.Tables.{book_of, NumberedTables}
use Rattle.sheet.proofs.Carried.{Carries, carries}
use Rattle.sheet.proofs.NumberedPrecedences.{numbered_precedence, numbered_strike}
use Rattle.sheet.proofs.NumberedStops.{numbered_carrier, numbered_stop}
use Rattle.sheet.proofs.SliceGet.{map-remove}
use Rattle.sheet.proofs.SoundCarrier.{sound_carrier}
use Rattle.sheet.proofs.SoundPrecedence.{sound_precedence, sound_strike}
use Rattle.sheet.proofs.SoundStop.{sound_stop}
use Rattle.sheet.proofs.Stable.{sound_held, numbered_held}

-- a carrier was entered
module _ (t t' : Tables) (start goal number stop : ℕ)
    (its_number : number ≡ length t.carriers)
    (its_stop : stop ≡ length t.stops)
    (carriers : t'.carriers ≡ t.carriers ++ record { start = start; goal = goal; last_stop = stop; last_place = start } ∷ [])
    (stops : t'.stops ≡ t.stops ++ record { carrier = number; place = start; previous = None } ∷ [])
    (precedences : t'.precedences ≡ t.precedences) where
  pub book_carrier_entered : book_of t' ≡ with_carrier (book_of t) start goal
  book_carrier_entered = grind (arith, common_steps)

  module _ (sound : Holds (Sound (book_of t))) (right : Holds (NumberedTables t)) (free : Accepts (checks (book_of t) (enter_carrier start goal))) where
    numbered : NumberedTables t'
    numbered =
        let n = length-map t.carriers book_carrier in
        let known : (s c u : ℕ) → Visits (book_of t) s c u → c < length t.carriers = λ s c u v. let l = (sound_held _ sound).known s c u v in omega arith in
        let new = numbered_carrier t.carriers t.stops t.precedences (numbered_held _ _ _ right) start goal known in
        rw (carriers, stops, precedences, its_number, its_stop) new

    pub carries_carrier : Carries t'
    carries_carrier = carries t' _ book_carrier_entered (sound_carrier (book_of t) (sound_held _ sound) start goal free) numbered

-- a carrier that goes on keeps its start and its goal
pub map-gone_on : (cs : List Carrier) (i : ℕ) (y : Carrier) → i < length cs → y.start ≡ (slice_index_or cs i no_carrier).start → y.goal ≡ (slice_index_or cs i no_carrier).goal → map book_carrier (set cs i y) ≡ map book_carrier cs
map-gone_on cs i y l start goal = map-set_same book_carrier cs i y no_carrier (λ k. record { start = start k; goal = goal k })

-- a stop was entered
module _ (t t' : Tables) (carrier place stop : ℕ) (x : Carrier)
    (its_number : stop ≡ length t.stops)
    (read : slice_get t.carriers carrier ≡ Some x)
    (carriers : t'.carriers ≡ set t.carriers carrier (gone_on x stop place))
    (stops : t'.stops ≡ t.stops ++ record { carrier = carrier; place = place; previous = Some x.last_stop } ∷ [])
    (precedences : t'.precedences ≡ t.precedences) where
  pub book_stop_entered : book_of t' ≡ with_stop (book_of t) carrier place
  book_stop_entered =
      let l = slice_get_within t.carriers carrier x read in
      let at = get_or_from_slice_get t.carriers carrier x no_carrier read in
      grind (arith, common_steps, map-gone_on)

  module _ (sound : Holds (Sound (book_of t))) (right : Holds (NumberedTables t)) (free : Accepts (checks (book_of t) (enter_stop carrier place))) where
    numbered_on : NumberedTables t'
    numbered_on =
        let new = numbered_stop t.carriers t.stops t.precedences (numbered_held _ _ _ right) carrier place x read in
        rw (carriers, stops, precedences, its_number) new

    pub carries_stop : Carries t'
    carries_stop = carries t' _ book_stop_entered (sound_stop (book_of t) (sound_held _ sound) carrier place free) numbered_on

-- a precedence was entered
module _ (t t' : Tables) (first second place first_stop second_stop : ℕ)
    (carriers : t'.carriers ≡ t.carriers)
    (stops : t'.stops ≡ t.stops)
    (precedences : t'.precedences ≡ t.precedences ++ record { first = first; second = second; place = place; first_stop = first_stop; second_stop = second_stop } ∷ []) where
  abbrev new_record : Precedence
  new_record = record { first = first; second = second; place = place; first_stop = first_stop; second_stop = second_stop }

  pub book_precedence_entered : book_of t' ≡ with_precedence (book_of t) first second place
  book_precedence_entered = grind (arith, common_steps)

  pub carries_precedence : Holds (Sound (book_of t)) → Holds (NumberedTables t) → Accepts (checks (book_of t) (enter_precedence first second place)) → Visits (book_of t) first_stop first place × Visits (book_of t) second_stop second place → Carries t'
  carries_precedence sound right free at =
      carries t' _ book_precedence_entered
      (sound_precedence (book_of t) (sound_held _ sound) first second place free)
      (rw (carriers, stops, precedences) (numbered_precedence t.carriers t.stops t.precedences (numbered_held _ _ _ right) new_record at))

-- a precedence was struck
module _ (t t' : Tables) (k : ℕ)
    (carriers : t'.carriers ≡ t.carriers)
    (stops : t'.stops ≡ t.stops)
    (precedences : t'.precedences ≡ remove t.precedences k) where
  pub book_precedence_struck : book_of t' ≡ without_precedence (book_of t) k
  book_precedence_struck = grind (arith, common_steps, map-remove)

  pub carries_strike : k < length t.precedences → Holds (Sound (book_of t)) → Holds (NumberedTables t) → Carries t'
  carries_strike within sound right =
      let in_book : k < length (book_of t).precedences = rw (length-map t.precedences book_precedence) within in
      carries t' _ book_precedence_struck
      (sound_strike (book_of t) (sound_held _ sound) k in_book)
      (rw (carriers, stops, precedences) (numbered_strike t.carriers t.stops t.precedences (numbered_held _ _ _ right) k within))

-- what an entry or a striking leaves
pub ruleset left = (common_steps, map-gone_on, map-remove, length-map, length-remove)
