use Rattle.std.proofs.Common.{arith, rules}
use Rattle.lags.proofs.OverrunTraces.{tracing_none, tracing_named, tracing_room, tracing_more, tracing_met, tracing_done, found}
use Rattle.lags.proofs.graph.Graph.trace_back.Goals as goal

pub loop-met-init : goal.loop-met-init
loop-met-init c = rw c.requires.empty (tracing_none _ _ _ _ c.requires.inside c.requires.over)

pub push-requires : goal.push-requires
push-requires c =
    let room = tracing_room _ _ _ _ _ _ _ c.loop-met.invariant c.args.self.now.allowed (search rules) in (omega arith, omega (arith, c.args.self.now.few))

pub bounds-self-from : goal.bounds-self-from
bounds-self-from c = rw (c.from-in-loop-met-3.ensures, c.from-in-loop-met-2.ensures) (tracing_named _ _ _ _ _ _ _ c.loop-met.invariant)

pub loop-met-smaller : goal.loop-met-smaller
loop-met-smaller c =
    let room = tracing_room _ _ _ _ _ _ _ c.loop-met.invariant c.args.self.now.allowed (search rules) in omega (arith, c.push.ensures.len)

pub loop-met-preserved : goal.loop-met-preserved
loop-met-preserved c =
    rw (c.push.ensures.items, c.from-in-loop-met.ensures, c.from-in-loop-met-3.ensures, c.from-in-loop-met-2.ensures)
    (tracing_more _ _ _ _ _ _ _ c.loop-met.invariant c.args.self.now.allowed (search rules) c.args.self.now.few)

pub unwrap-requires : goal.unwrap-requires
unwrap-requires c = found _ _ _ (rw c.deref.ensures.0 at c.place_of.ensures) (tracing_met _ _ _ _ _ _ _ c.loop-met.invariant (search rules))

pub returns : goal.returns
returns c =
    let place = rw (c.unwrap.ensures, c.deref.ensures.0) at c.place_of.ensures in
    tracing_done _ _ _ _ _ _ _ c.loop-met.invariant _ place.0 place.1
