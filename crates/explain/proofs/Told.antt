-- What the carriers' records of a sheet tell of their routes.
use Rattle.std.proofs.Common.{◌≡◌, ℕ, ◌<◌, ◌↔◌, Bool, true, false, IsTrue, List, length, slice_index_or, refl, arith}
use Rattle.std.specs.Bool.{then_some}
use Rattle.std.proofs.lemmas.Option.{slice_get-get_or}
use Rattle.sheet.specs.declared.records.Carrier.{Carrier}
use Rattle.sheet.specs.declared.records.Stop.{Stop}
use Rattle.sheet.specs.declared.sheets.Sheet.{Sheet}
use Rattle.sheet.specs.Records.{no_carrier}
use Rattle.sheet.specs.Sheets.{carriers_of, stops_of, sheet_book}
use Rattle.sheet.proofs.Facts.{goes_of, latest_of, sound_of}
use Rattle.sheet.proofs.Told.{at_goal}
use Rattle.explain.specs.Facts.{AtGoal, RoutesTold}
use Rattle.explain.specs.Found.{Finds}
use Rattle.explain.specs.Lists.{lists_of}
use Rattle.explain.proofs.Named.{visits, visits_back}

pub routes_told : (s : Sheet) → RoutesTold (carriers_of s) (stops_of s)
routes_told s = record {
  last = λ c l. visits (lists_of s) _ c _ (latest_of s c _ (slice_get-get_or (carriers_of s) c no_carrier l)).here;
  ends = λ c k l v.
      let at = slice_get-get_or (carriers_of s) c no_carrier l in
      at_goal (sheet_book s) (sound_of s) c _ _ _ _ (goes_of s c _ at) (latest_of s c _ at) (_, (_, goes_of s c _ at), (k, visits_back (lists_of s) k c _ v));
}

-- so a carrier's goal is reached where its last place is its goal, and else is not
pub goal_told : (carriers : List Carrier) (stops : List Stop) → RoutesTold carriers stops → (c : ℕ) (x : Carrier) → c < length carriers → x ≡ slice_index_or carriers c no_carrier → (there : Bool) → IsTrue there ↔ (x.last_place ≡ x.goal) → Finds (AtGoal carriers stops c) (then_some there x.goal)
goal_told carriers stops told c x l is true at =
    let here = told.last c l in
    let home = at.0 refl in
    ((l, grind (arith, is)), (x.last_stop, grind (arith, is, home, here)))
goal_told carriers stops told c x l is false at = λ g (ends, (k, v)). grind (arith, told.ends c k l, is, at, ends, v)
