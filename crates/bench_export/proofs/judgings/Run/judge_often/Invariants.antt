use Rattle.std.proofs.Common.{IfOk, length, ◌≤◌}
use Rattle.sheet.specs.Sheets.{sheet_book}
use Rattle.bench_export.specs.Judging.{JudgedOften}
use Rattle.bench_export.proofs.judgings.Run.judge_often.Given as goal

abbrev pub invariant-loop : goal.invariant-loop
invariant-loop g l = record {
  judged : JudgedOften (record { lanes = g.Y.Yard.lanes l.yard; gap = g.R.FollowingRule.gaps l.rule; largest = g.R.FollowingRule.LARGEST_GAP }) (sheet_book l.sheet) l.counter l.initial.timetable l.initial.ring l.timetable l.ring l.answer;
  within : IfOk l.answer (λ stops. stops ≤ length l.timetable);
}
