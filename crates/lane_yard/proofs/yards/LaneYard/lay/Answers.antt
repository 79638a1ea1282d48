use Rattle.std.proofs.Common.{refl, rules}
use Rattle.lane_yard.proofs.Listed.{lanes_listed}
use Rattle.lane_yard.proofs.Single.{no_fault, one_fault}
use Rattle.lane_yard.proofs.yards.LaneYard.lay.Goals as goal

pub returns-in_err-check_lanes-clause-exact : goal.returns-in_err-check_lanes-clause-exact
returns-in_err-check_lanes-clause-exact c = search (rules, one_fault)

pub returns-clause-outcome : goal.returns-clause-outcome
returns-clause-outcome c =
    let lawful = c.in_ok-check_lanes.ensures in
    rw (c.replace.ensures.replaced lawful.0) (lawful, refl, lanes_listed _ lawful.1.1)

pub returns-clause-exact : goal.returns-clause-exact
returns-clause-exact c = search (rules, no_fault)
