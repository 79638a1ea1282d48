use Rattle.std.proofs.Common.{◌⊎◌, inl, inr, rules}
use Rattle.std.proofs.lemmas.List.{length-map}
use Rattle.sheet.specs.Calls.{StartTaken, GoalTaken}
use Rattle.sheet.specs.Tables.{book_of}
use Rattle.sheet.proofs.Found.{start_taken, goal_taken}
use Rattle.sheet.proofs.sheets.Sheet.check_carrier.Goals as goal
use Rattle.sheet.proofs.sheets.Sheet.check_carrier.Goals.{then-has-via-then-has, then-has-via-else-has+then-has-2}

pub returns-then-has-clause-checked : goal.returns-then-has-clause-checked
returns-then-has-clause-checked c =
    let t = c.args.self.now.tables in
    let has_start = rw c.carriers-carriers.ensures at c.has.ensures in
    let taken : StartTaken (book_of t) c.args.start ⊎ GoalTaken (book_of t) c.args.goal = elim c.then-has.branch [
      | then-has-via-then-has w ↦ inl ((start_taken t c.args.start).0 (has_start.0 w.if-has.true))
      | then-has-via-else-has+then-has-2 w ↦
          let has_goal = rw c.carriers-carriers.ensures at w.has-else-has.ensures in
          inr ((goal_taken t c.args.goal).0 (has_goal.0 w.if-has-2.true))
    ] in
    search (rules, length-map) depth 12

pub returns-clause-checked : goal.returns-clause-checked
returns-clause-checked c =
    let t = c.args.self.now.tables in
    search (rules, start_taken t c.args.start, goal_taken t c.args.goal, length-map) depth 12
