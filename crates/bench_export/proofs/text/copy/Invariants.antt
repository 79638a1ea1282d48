use Rattle.std.specs.Slice.Iter.{split_inclusive_rest}
use Rattle.bench_export.proofs.Copies.{SoFar}
use Rattle.bench_export.proofs.text.copy.Given as goal

abbrev pub invariant-loop-line : goal.invariant-loop-line
invariant-loop-line l = SoFar l.input l.text (split_inclusive_rest l.line-iterator) l.initial.page l.page l.at
