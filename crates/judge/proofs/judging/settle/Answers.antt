use Rattle.std.proofs.Common.{refl, arith}
use Rattle.judge.proofs.Settlings.{fit, times_fit, times_written, ring_written}
use Rattle.judge.proofs.judging.settle.Goals as goal

pub write_timetable-requires : goal.write_timetable-requires
write_timetable-requires g c =
    let rule = g.met.R.FollowingRule in
    let each = c.args.tables.ready.one_each in
    record { room = omega arith; small = times_fit rule.small (rule.bounded _) c.args.tables.ready c.gather_lags.ensures c.deref.ensures.0 _ c.in-Ok.ensures.1 (omega arith) }

pub unreachable-requires : goal.unreachable-requires
unreachable-requires g c =
    let rule = g.met.R.FollowingRule in
    let each = c.args.tables.ready.one_each in
    let unfit = rw c.in-Err-Unfit.field-0-is at c.in-Err-Unfit.ensures in
    unfit.0 (fit rule.small (rule.bounded _) c.args.tables.ready c.gather_lags.ensures c.deref.ensures.0 _ _ (omega arith) c.deref.ensures.1 c.requires.ring)

pub returns-in-Ok : goal.returns-in-Ok
returns-in-Ok g c =
    let rule = g.met.R.FollowingRule in
    let each = c.args.tables.ready.one_each in
    (omega arith, times_written rule.small (rule.bounded _) c.args.tables.ready c.gather_lags.ensures c.deref.ensures.0 _ _ c.in-Ok.ensures.1 (omega arith) c.write_timetable.ensures c.in-Ok.ensures.2)

pub returns-in-Err-Ring : goal.returns-in-Err-Ring
returns-in-Err-Ring g c =
    let rule = g.met.R.FollowingRule in
    let each = c.args.tables.ready.one_each in
    let looped = (rw c.in-Err-Ring.field-0-is at c.in-Err-Ring.ensures).1 in
    rw c.in-Err-Ring.field-0-is (ring_written rule.small (rule.bounded _) c.args.tables.ready c.gather_lags.ensures c.deref.ensures.0 _ _ _ looped (omega (arith, looped.within, c.requires.ring)) refl)
