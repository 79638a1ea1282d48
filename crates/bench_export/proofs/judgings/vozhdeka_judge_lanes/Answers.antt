use Rattle.std.proofs.Common.{Err, inr, refl}
use Rattle.bench_export.proofs.judgings.vozhdeka_judge_lanes.Goals as goal

pub returns-in-Err-clause-tells : goal.returns-in-Err-clause-tells
returns-in-Err-clause-tells c = record {
  outcome = Err c.in-Err.fault;
  comes = inr (c.in-Err.fault, refl, c.in-Err.ensures, (refl, refl));
  told = c.code_of-in-Err.ensures;
}
