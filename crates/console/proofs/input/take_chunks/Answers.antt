use Rattle.std.proofs.Common.{[], ◌++◌, take}
use Rattle.std.proofs.KnownBytes.{Consumes-nil, Consumes-trans}
use Rattle.console.proofs.Taken.{taken_kept, taken_none}
use Rattle.console.proofs.input.take_chunks.Goals as goal

pub loop-init : goal.loop-init
loop-init g c = ([], Consumes-nil (g.R.Read.remaining c.args.input.now), taken_none g.T.TakesLines.takes c.args.taker.now (g.W.Write.contents c.args.out.now) c.args.line.now c.requires)

pub loop-preserved : goal.loop-preserved
loop-preserved g c =
    let i = c.loop.invariant in
    let part = take c.in_ok-count.count c.read.new.buf in
    let taken = c.in_ok-take_bytes.ensures i.0 _ _ i.2 in
    (i.0 ++ part, Consumes-trans _ _ _ i.0 part i.1 c.in_ok-count.ensures.bytes.0, taken_kept g.T.TakesLines.takes (i.0 ++ part) _ _ _ _ _ _ taken c.in_ok-flush.ensures.bytes)
