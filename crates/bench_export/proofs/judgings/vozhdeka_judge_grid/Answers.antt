use Rattle.std.proofs.Common.{Err, inl, inr, refl}
use Rattle.grid_yard.specs.Meaning.{lanes_of}
use Rattle.bench_export.proofs.judgings.vozhdeka_judge_grid.Goals as goal

pub returns-in-Ok-clause-tells : goal.returns-in-Ok-clause-tells
returns-in-Ok-clause-tells c = rw (← c.rule_of.ensures) (record {
  outcome = c.in_yard.result;
  comes = inl (lanes_of c.in-Ok.yard, c.in-Ok.ensures, c.in_yard.ensures.comes);
  told = c.code_of.ensures;
})

pub returns-in-Err-clause-tells : goal.returns-in-Err-clause-tells
returns-in-Err-clause-tells c = record {
  outcome = Err c.in-Err.fault;
  comes = inr (c.in-Err.fault, refl, c.in-Err.ensures, (refl, refl));
  told = c.code_of-in-Err.ensures;
}
