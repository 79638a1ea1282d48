use Rattle.std.proofs.Common.{◌++◌, take, arith}
use Rattle.std.proofs.lemmas.List.{append_assoc, append-nil, take_all, take_more}
use Rattle.yard_file.proofs.files.YardFile.read.Goals as goal

pub loop-byte-init : goal.loop-byte-init
loop-byte-init c bytes r = rw append-nil r

pub loop-byte-preserved : goal.loop-byte-preserved
loop-byte-preserved c bytes r =
    let i = c.loop-byte.byte-index in
    let more = c.args.more.now in
    let before = c.loop-byte.invariant bytes r in
    rw (take_more more i 0 (omega arith), ← append_assoc) (c.push.ensures (bytes ++ take i more) before)

pub returns : goal.returns
returns c bytes r =
    let all = take_all c.loop-byte.byte-index c.args.more.now (omega arith) in
    rw all at (c.loop-byte.invariant bytes r)
