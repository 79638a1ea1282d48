use Rattle.std.proofs.Common.{length, refl, ap, arith}
use Rattle.std.proofs.lemmas.Result.{err_from_is_err_and}
use Rattle.judge.proofs.InFull.{judged_fully}
use Rattle.judge.proofs.Judgements.{judged_short, judged_away, judged_routed}
use Rattle.judge.proofs.Routings.{routed_within}
use Rattle.judge.proofs.Tabled.{consistent}
use Rattle.judge.proofs.judging.judge.Goals as goal

pub invariant_of-routes : goal.invariant_of-routes
invariant_of-routes g c = record { consistent = consistent c.args.sheet.now _ _ c.stops-stops.ensures c.precedences.ensures }

pub returns-then-timetable-stops : goal.returns-then-timetable-stops
returns-then-timetable-stops g c =
    let long = ap length c.stops-stops.ensures in
    judged_fully _ _ (judged_short c.args.sheet.now _ _ _ (g.met.Y.Yard.limited _) _ (λ f. grind (arith, f, long, c.then-timetable-stops.either)) (refl, refl)) tt

pub returns-in_err-check_goals : goal.returns-in_err-check_goals
returns-in_err-check_goals g c =
    let long = ap length c.stops-stops.ensures in
    let away = rw c.carriers.ensures at c.in_err-check_goals.ensures in
    let p = err_from_is_err_and c.from_residual.result c.from_residual.ensures.1 in
    rw (p.1, p.2, away.1) (judged_fully _ _ (judged_away c.args.sheet.now _ _ _ (g.met.Y.Yard.limited _) _ (omega arith, omega arith) away.0 away.2 (refl, refl)) tt)

pub returns : goal.returns
returns g c =
    let long = ap length c.stops-stops.ensures in
    let routed = rw (c.stops-stops.ensures, c.precedences.ensures) at c.judge_routes.ensures in
    let home = rw c.carriers.ensures at c.in_ok-check_goals.ensures in
    judged_fully _ _ (judged_routed c.args.sheet.now _ _ _ (g.met.Y.Yard.limited _) _ (omega arith, omega arith) home _ routed)
    (routed_within _ _ _ _ _ _ (omega arith) c.judge_routes.auto.ring _ c.judge_routes.ensures)
