use Rattle.std.proofs.Common.{ap, sym, ◌∙◌, Some, arith}
use Rattle.std.proofs.lemmas.Bool.{both_ways}
use Rattle.judge.proofs.ChainSteps.{left_first, left_more, link_smaller}
use Rattle.judge.proofs.meetings.ByPlace.undecided_with.Goals as goal

pub loop-next-init : goal.loop-next-init
loop-next-init c = left_first _ _ _ _ (c.args.self.chained c.args.s c.requires)

pub is_undecided-requires : goal.is_undecided-requires
is_undecided-requires c =
    let w = c.loop-next.invariant.within c.from-t.result (c.in-Some.is ∙ ap Some (sym c.from-t.ensures)) in
    record { order = w.0; within = w.1 }

pub loop-next-preserved : goal.loop-next-preserved
loop-next-preserved c =
    let t = c.from-t.result in
    let at = c.in-Some.is ∙ ap Some (sym c.from-t.ensures) in
    let w = c.loop-next.invariant.within t at in
    left_more c.args.self.routes.stops.now c.args.marks.now.first c.args.s c.loop-next.next _ t at c.loop-next.invariant
    (λ m. both_ways _ c.if-is_undecided.false (c.is_undecided.ensures.1 m))
    (c.args.self.chained t w.1)

pub loop-next-smaller : goal.loop-next-smaller
loop-next-smaller c =
    let t = c.from-t.result in
    let at = c.in-Some.is ∙ ap Some (sym c.from-t.ensures) in
    let w = c.loop-next.invariant.within t at in
    link_smaller _ t c.loop-next.next _ at w.1 (λ u q. let l = (c.args.self.chained t w.1).within u q in omega (arith, l.0))
