use Rattle.explain.proofs.lane_fault.lane_fault_of.Goals as goal

pub returns-in-BadLane : goal.returns-in-BadLane
returns-in-BadLane c = rw c.in-BadLane.is c.limit_fault.ensures
