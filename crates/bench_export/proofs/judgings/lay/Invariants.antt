use Rattle.std.proofs.Common.{vec_items}
use Rattle.lane_yard.specs.Meaning.{lanes_of}
use Rattle.bench_export.specs.Judging.{Laid}
use Rattle.bench_export.proofs.judgings.lay.Given as goal

abbrev pub invariant-loop : goal.invariant-loop
invariant-loop l = Laid l.counter (vec_items l.lanes) (lanes_of l.yard)
