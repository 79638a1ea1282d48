use Rattle.std.proofs.Common.{arith, rules, ◌++◌, take}
use Rattle.std.proofs.lemmas.List.{append_assoc}
use Rattle.std.proofs.KnownBytes.{Consumes-trans}
use Rattle.console.proofs.Taken.{consumes_end}
use Rattle.console.proofs.files.feed.Goals as goal

pub returns-in_err-count : goal.returns-in_err-count
returns-in_err-count g c bytes r =
    let i = c.loop.invariant bytes r in
    (i.0, i.1, search rules)

pub returns-then-count-eq0 : goal.returns-then-count-eq0
returns-then-count-eq0 g c bytes r =
    let i = c.loop.invariant bytes r in
    let last = c.in_ok-count.ensures.bytes in
    (i.0, i.1, (consumes_end _ _ _ i.0 c.read.new.buf c.in_ok-count.count c.if-count-eq0.true i.2 last.0, last.1 c.if-count-eq0.true (omega arith)))

pub loop-preserved : goal.loop-preserved
loop-preserved g c bytes r =
    let i = c.loop.invariant bytes r in
    let part = take c.in_ok-count.count c.read.new.buf in
    (i.0 ++ part, rw (← append_assoc) (c.read-in-loop.ensures (bytes ++ i.0) i.1), Consumes-trans _ _ _ i.0 part i.2 c.in_ok-count.ensures.bytes.0)

pub returns : goal.returns
returns g c bytes r =
    let i = c.loop.invariant bytes r in
    (i.0, i.1, search rules)
