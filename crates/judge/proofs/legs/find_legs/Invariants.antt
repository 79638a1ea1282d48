use Rattle.judge.specs.Legs.{Legs}
use Rattle.judge.proofs.legs.find_legs.Given as goal

abbrev pub invariant-loop-i : goal.invariant-loop-i
invariant-loop-i g l = Legs (g.Y.Yard.lanes l.yard) l.stops l.i l.legs
