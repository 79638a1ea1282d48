use Rattle.std.proofs.Common.{ap}
use Rattle.lane_yard.specs.Meaning.{lanes_of}
use Rattle.console.proofs.Replied.{all_replied}
use Rattle.console.proofs.judge_lines.answer_lines.Goals as goal

pub returns : goal.returns
returns g c =
    let s = c.in_ok-session.ensures in
    all_replied c.take_lines.result (lanes_of c.args.yard) _ _ _ _ _ c.take_lines.new.taker (ap lanes_of s.opens.1) s.begins c.take_lines.ensures
