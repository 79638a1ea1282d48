use Rattle.std.proofs.Common.{◌≡◌, add-one, arith, rules}
use Rattle.bench_export.proofs.judgings.Run.judge_often.Goals as goal

pub loop-preserved : goal.loop-preserved
loop-preserved g c = record {
  judged = rw add-one (c.loop.timetable, c.loop.ring, c.loop.answer, c.loop.invariant.judged, c.judge-answer.ensures);
  within = search rules;
}

pub returns-clause-judged : goal.returns-clause-judged
returns-clause-judged g c =
    let often : c.loop.counter ≡ c.args.self.now.judgings = omega arith in
    rw (← often) c.loop.invariant.judged
