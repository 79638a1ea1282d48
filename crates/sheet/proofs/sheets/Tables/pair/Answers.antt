use Rattle.sheet.proofs.Told.{start_told, goal_told}
use Rattle.sheet.proofs.sheets.Tables.pair.Goals as goal

pub returns-clause-goal : goal.returns-clause-goal
returns-clause-goal c = goal_told c.args.self.now _ _ c.in_ok-first.ensures.known c.args.order.place

pub returns-clause-start : goal.returns-clause-start
returns-clause-start c = start_told c.args.self.now _ _ c.in_ok-second.ensures.known c.args.order.place
