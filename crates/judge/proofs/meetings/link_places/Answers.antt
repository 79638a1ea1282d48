use Rattle.std.proofs.Common.{refl, ◌∙◌, arith}
use Rattle.std.proofs.lemmas.List.{length-set}
use Rattle.judge.proofs.ChainSteps.{chained_none, chained_more}
use Rattle.judge.proofs.meetings.link_places.Goals as goal

pub loop-s-init : goal.loop-s-init
loop-s-init c = (refl, chained_none c.args.stops.now c.args.later.now)

pub loop-s-preserved : goal.loop-s-preserved
loop-s-preserved c =
    let inv = c.loop-s.invariant in
    rw c.from-part.ensures (length-set _ _ _ ∙ inv.0, chained_more _ _ _ _ _ (omega arith) (omega arith) (omega arith) inv.0 inv.1)
