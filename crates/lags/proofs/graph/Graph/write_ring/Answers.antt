use Rattle.std.proofs.Common.{◌-◌, length, drop, refl, arith}
use Rattle.std.proofs.lemmas.List.{take_all, length-drop}
use Rattle.lags.proofs.Turns.{cycle_short, looped}
use Rattle.lags.proofs.graph.Graph.write_ring.Goals as goal

pub write_from_lowest-requires-clause-some : goal.write_from_lowest-requires-clause-some
write_from_lowest-requires-clause-some c =
    let n = c.trace_back-first.result in
    let all = take_all (length c.deref.result.now - n) (drop n c.deref.result.now) (omega (arith, length-drop n c.deref.result.now)) in
    rw (all, c.deref.ensures.0) c.trace_back-first.ensures.some

pub write_from_lowest-requires-clause-room : goal.write_from_lowest-requires-clause-room
write_from_lowest-requires-clause-room c =
    let g = c.args.self.now in
    let n = c.trace_back-first.result in
    let all = take_all (length c.deref.result.now - n) (drop n c.deref.result.now) (omega (arith, length-drop n c.deref.result.now)) in
    rw (all, c.deref.ensures.0) (omega (arith, c.requires.room, cycle_short _ _ _ c.trace_back-first.ensures g.nodes g.allowed))

pub returns : goal.returns
returns c =
    let g = c.args.self.now in
    let n = c.trace_back-first.result in
    let all = take_all (length c.deref.result.now - n) (drop n c.deref.result.now) (omega (arith, length-drop n c.deref.result.now)) in
    let wrote = c.write_from_lowest.ensures in
    rw (all, c.deref.ensures.0) (looped _ _ _ _ _ _ c.trace_back-first.ensures refl (rw (all, c.deref.ensures.0) at wrote.turned) (rw (all, c.deref.ensures.0) at wrote.stands) g.nodes g.allowed)
