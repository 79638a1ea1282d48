use Rattle.lane_yard.specs.Meaning.{lanes_of}
use Rattle.explain.proofs.JudgeNamed.{judge_named}
use Rattle.explain.proofs.site.Site.judge_cause_of.Goals as goal

pub returns-in-NoLane-clause-finds : goal.returns-in-NoLane-clause-finds
returns-in-NoLane-clause-finds c = rw c.in-NoLane.is c.no_lane.ensures

pub returns-in-NotAtGoal-clause-named : goal.returns-in-NotAtGoal-clause-named
returns-in-NotAtGoal-clause-named c s = judge_named s (lanes_of c.args.self.now.yard.now) c.args.self.now.records c.args.why c.not_at_goal.result (rw c.in-NotAtGoal.is c.not_at_goal.ensures)

pub returns-in-NoLane-clause-named : goal.returns-in-NoLane-clause-named
returns-in-NoLane-clause-named c s = judge_named s (lanes_of c.args.self.now.yard.now) c.args.self.now.records c.args.why c.no_lane.result (rw c.in-NoLane.is c.no_lane.ensures)

pub returns-in-Undecided-clause-named : goal.returns-in-Undecided-clause-named
returns-in-Undecided-clause-named c s = judge_named s (lanes_of c.args.self.now.yard.now) c.args.self.now.records c.args.why c.undecided.result (rw c.in-Undecided.is c.undecided.ensures)

pub returns-in-HeadOn-clause-named : goal.returns-in-HeadOn-clause-named
returns-in-HeadOn-clause-named c s = judge_named s (lanes_of c.args.self.now.yard.now) c.args.self.now.records c.args.why c.head_on.result (rw c.in-HeadOn.is c.head_on.ensures)
