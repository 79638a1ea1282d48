use Rattle.std.proofs.Common.{Some, refl, ap, sym, ◌∙◌, arith}
use Rattle.judge.proofs.LegSteps.{legs_kept, legs_set}
use Rattle.judge.proofs.legs.find_legs.Goals as goal
use Rattle.judge.proofs.legs.find_legs.Goals.{in-Some+in-Some-travel_time, in_default}

pub loop-i-preserved : goal.loop-i-preserved
loop-i-preserved g c = elim c.match-stop.branch [
  | in-Some+in-Some-travel_time w ↦
      let comes = w.in-Some.is ∙ ap Some (sym w.from-previous.ensures) in
      let before = c.args.routes.consistent.linked c.loop-i.i w.from-previous.result c.loop-i-test.true comes in
      legs_set _ _ _ _ c.loop-i.invariant _ _ _ _ _ w.legs-is refl refl refl refl comes w.in-Some-travel_time.ensures (omega arith) before
  | in_default w ↦ legs_kept _ _ _ _ c.loop-i.invariant _ w.legs-is w.in_default.is
]
