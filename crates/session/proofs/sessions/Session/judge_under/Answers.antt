use Rattle.std.proofs.Common.{◌≡◌, length, rules}
use Rattle.session.specs.Sessions.{book_in, lanes_in, pages_over}
use Rattle.session.proofs.Rules.{replied, ruled}
use Rattle.yard.specs.Rules.{gaps_of}
use Rattle.session.proofs.sessions.Session.judge_under.Goals as goal

pub returns-in_err-stops-clause-ruled : goal.returns-in_err-stops-clause-ruled
returns-in_err-stops-clause-ruled c =
    let own = c.args.self.now in
    let after = record own { timetable = c.judge.new.timetable; ring = c.judge.new.ring } in
    let rule = c.in_ok-rule.ensures in
    ruled (lanes_in own) (gaps_of (λ g. g.ticks) c.in_ok-rule.rule) (book_in own) (pages_over own after) c.args.rule c.judge.result c.from_residual-in_err-stops.result rule.1 (search rules) (book_in own) rule.0 c.judge.ensures.judges

pub returns-in_err-stops-clause-replied : goal.returns-in_err-stops-clause-replied
returns-in_err-stops-clause-replied c _ =
    let own = c.args.self.now in
    let after = record own { timetable = c.judge.new.timetable; ring = c.judge.new.ring } in
    let timetable : length own.timetable ≡ 1024 = search rules in
    let ring : length own.ring ≡ 1024 = search rules in
    replied (lanes_in own) (gaps_of (λ g. g.ticks) c.in_ok-rule.rule) (book_in own) (pages_over own after) c.args.rule c.judge.result c.from_residual-in_err-stops.result c.in_ok-rule.ensures.1 (search rules) (rw (timetable, ring)) c.judge.ensures.concludes
