use Rattle.std.proofs.Common.{[], ◌∷◌, ◌++◌, take, sym, ap, ◌∙◌, arith}
use Rattle.std.proofs.lemmas.List.{take_more}
use Rattle.play.proofs.Runs.{further}
use Rattle.play.proofs.playing.play.Goals as goal

pub loop-call-preserved : goal.loop-call-preserved
loop-call-preserved g c =
    let calls = c.args.calls.now in
    let i = c.loop-call.call-index in
    let call = c.call-item.result in
    let front = take_more calls i call (omega arith) ∙ ap (λ x. take i calls ++ x ∷ []) (sym c.call-item.is) in
    further call _ c.loop-call.invariant c.in_ok-make_call.ensures front c.in_ok-push.ensures.items
