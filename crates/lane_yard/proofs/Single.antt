-- A list has one fault or none.
use Rattle.std.proofs.Common.{◌≡◌, ◌-◌, List, arith, rules}
use Rattle.lane_yard.specs.declared.lane.Lane.{Lane}
use Rattle.lane_yard.specs.declared.refusal.LayRefusal.{LayRefusal}
use Rattle.lane_yard.specs.declared.refusal.LayRefusal.TheVariants.{BadLane, NotRising, TooManyLanes}
use Rattle.lane_yard.specs.Faults.{Fault, Lawful}

module _ (xs : List Lane) where
  pub no_fault : (e : LayRefusal) → Lawful xs → ¬ Fault xs e
  no_fault TooManyLanes l f = search rules
  no_fault (BadLane i) l f = search rules
  no_fault (NotRising i) l f = grind (arith, f.5 (i - 1), l.1.1 (i - 1))

  pub one_fault : (d e : LayRefusal) → Fault xs d → Fault xs e → d ≡ e
  one_fault TooManyLanes TooManyLanes f h = grind arith
  one_fault TooManyLanes (BadLane j) f h = grind arith
  one_fault TooManyLanes (NotRising j) f h = grind arith
  one_fault (BadLane i) TooManyLanes f h = grind arith
  one_fault (BadLane i) (BadLane j) f h = grind (arith, h.2.0 i, f.2.0 j)
  one_fault (BadLane i) (NotRising j) f h = grind (arith, h.2.0 i, f.2.1 (j - 1), h.5 (j - 1))
  one_fault (NotRising i) TooManyLanes f h = grind arith
  one_fault (NotRising i) (BadLane j) f h = grind (arith, f.2.0 j, h.2.1 (i - 1), f.5 (i - 1))
  one_fault (NotRising i) (NotRising j) f h = grind (arith, f.2.1 (j - 1), h.2.1 (i - 1), f.5 (i - 1), h.5 (j - 1))
