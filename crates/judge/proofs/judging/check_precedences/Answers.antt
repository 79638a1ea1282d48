use Rattle.judge.proofs.Routings.{precedences_checked}
use Rattle.judge.proofs.judging.check_precedences.Goals as goal

pub returns : goal.returns
returns c = precedences_checked _ _ _ _ c.mark.ensures c.in_ok-check_meetings.ensures _ c.check_head_on.ensures
