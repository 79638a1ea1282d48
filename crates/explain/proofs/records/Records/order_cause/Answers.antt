use Rattle.explain.proofs.records.Records.order_cause.Goals as goal

pub returns-in-FirstsGoalOrSecondsStart : goal.returns-in-FirstsGoalOrSecondsStart
returns-in-FirstsGoalOrSecondsStart c = rw c.in-FirstsGoalOrSecondsStart.is c.end_of_route.ensures

pub returns-in-NothingToStrike : goal.returns-in-NothingToStrike
returns-in-NothingToStrike c = rw c.in-NothingToStrike.is c.not_standing.ensures
