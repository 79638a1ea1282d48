use Rattle.std.proofs.Common.{◌≡◌, ◌∙◌, length, ap, refl, arith, w32, SFits, rules}
use Rattle.std.proofs.lemmas.Int.{to_z-of_z}
use Rattle.arrayvec.specs.ArrayVec.{array_vec_len}
use Rattle.judge.proofs.WaitSteps.{step_none, step_more}
use Rattle.judge.proofs.tables.Tables.gather_steps.Goals as goal
use Rattle.judge.proofs.tables.Tables.gather_steps.Goals.{in-Some, in_default}

pub loop-t-preserved : goal.loop-t-preserved
loop-t-preserved c = elim c.match-stop.branch [
  | in-Some w ↦
      let fits : SFits w32 w.from.result = search rules in (
        omega (arith, ap array_vec_len w.lags-is, w.push.ensures.len),
        rw (w.lags-is, w.push.ensures.items) (step_more _ _ _ _ c.loop-t.invariant.1 _ refl (record { within = omega arith; step = w.in-Some.is; weighs = to_z-of_z w32 _ fits ∙ w.from.ensures })),
      )
  | in_default w ↦ rw w.lags-is (omega arith, step_none _ _ _ _ c.loop-t.invariant.1 w.in_default.is)
]

pub returns-clause-gathered : goal.returns-clause-gathered
returns-clause-gathered c =
    let all : c.loop-t.t ≡ length c.args.self.routes.stops.now = omega arith in
    rw all at c.loop-t.invariant.1
