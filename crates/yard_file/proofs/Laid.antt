-- Laying the lanes that are kept is laying all lanes of the file.
use Rattle.std.proofs.Common.{ℕ, length-take, ◌≡◌, ◌<◌, ◌≤◌, List, length, take, ◌∙◌, arith}
use Rattle.std.proofs.lemmas.List.{length-take-le, take_all}
use Rattle.lane_yard.specs.Faults.{Fault, Lawful}
use Rattle.lane_yard.specs.Meaning.{lanes_of, records_of}
use Rattle.lane_yard.specs.Records.{LanesOf}
use Rattle.lane_yard.specs.declared.lane.Lane.{Lane}
use Rattle.lane_yard.specs.declared.refusal.LayRefusal.{LayRefusal}
use Rattle.lane_yard.specs.declared.refusal.LayRefusal.TheVariants.{BadLane, NotRising, TooManyLanes}
use Rattle.lane_yard.specs.declared.yards.LaneYard.{LaneYard}

taken : {X : Type 0} (n : ℕ) (xs : List X) → length (take n xs) < n → take n xs ≡ xs
taken n xs h = grind (arith, take_all n xs, length-take-le n xs)

-- where not more than may be laid are kept, all are
pub all_kept : (lanes : List Lane) → length (take 8193 lanes) ≤ 8192 → take 8193 lanes ≡ lanes
all_kept lanes h = taken 8193 lanes (omega arith)

pub fault_kept : (lanes : List Lane) (why : LayRefusal) → Fault (take 8193 lanes) why → Fault lanes why
fault_kept lanes TooManyLanes f = omega (arith, length-take {A = Lane})
fault_kept lanes (BadLane i) f = rw (all_kept lanes f.0) at f
fault_kept lanes (NotRising i) f = rw (all_kept lanes f.0) at f

-- a list that is laid is all of the lanes
pub laid_kept : (lanes xs : List Lane) (yard : LaneYard) → xs ≡ take 8193 lanes → Lawful xs × (records_of yard ≡ xs) × LanesOf xs (lanes_of yard) → Lawful lanes × (records_of yard ≡ lanes) × LanesOf lanes (lanes_of yard)
laid_kept lanes xs yard kept laid =
    let all = kept ∙ all_kept lanes (rw kept at laid.0.0) in
    rw all at laid
