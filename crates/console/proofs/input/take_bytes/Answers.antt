use Rattle.std.proofs.Common.{◌++◌, take, arith}
use Rattle.std.proofs.lemmas.List.{append_assoc, take_more}
use Rattle.console.proofs.Taken.{taken_end, taken_more}
use Rattle.console.proofs.input.take_bytes.Goals as goal
use Rattle.console.proofs.input.take_bytes.Goals.{then-byte-eq10+in_ok-take_line, else-byte-eq10}

pub loop-byte-preserved : goal.loop-byte-preserved
loop-byte-preserved g c before t held r =
    let i = c.loop-byte.byte-index in
    let bytes = c.args.bytes.now in
    let inv = c.loop-byte.invariant before t held r in
    let seen = before ++ take i bytes in
    rw (take_more bytes i 0 (omega arith), ← append_assoc) (elim c.if-byte-eq10.branch [
      | then-byte-eq10+in_ok-take_line w ↦
          let took = rw w.line.ensures at w.in_ok-take_line.ensures in
          rw (w.if-byte-eq10.true, w.line-is, w.taker-is, w.out-is) (taken_end g.T.TakesLines.takes seen t _ _ held _ _ c.loop-byte.line w.clear.new.self inv took w.clear.ensures)
      | else-byte-eq10 w ↦
          rw (w.line-is, w.taker-is, w.out-is) (taken_more g.T.TakesLines.takes seen _ t _ held _ c.loop-byte.line w.push.new.self w.if-byte-eq10.false w.push.ensures.whole inv)
    ])
