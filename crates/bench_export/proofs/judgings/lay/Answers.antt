use Rattle.std.proofs.Common.{◌≡◌, add-one, arith, rules}
use Rattle.bench_export.proofs.judgings.lay.Goals as goal

pub loop-preserved : goal.loop-preserved
loop-preserved c = rw add-one (search rules)

pub returns : goal.returns
returns c =
    let often : c.loop.counter ≡ c.args.layings = omega arith in
    rw (← often) (search rules)
