use Rattle.std.proofs.Common.{◌∙◌, rules}
use Rattle.yard_file.proofs.Noted.{kept_none, kept_pushed, none_said}
use Rattle.yard_file.proofs.files.YardFile.note.Goals as goal

pub returns-in-Ok-Lane-clause-lanes : goal.returns-in-Ok-Lane-clause-lanes
returns-in-Ok-Lane-clause-lanes c lanes is =
    let entry = rw c.in-Ok-Lane.is at c.in-Ok-Lane.field-0-is in
    rw c.in-Ok-Lane.is (rw entry (kept_pushed lanes c.args.self.now.lanes c.push.new.self _ c.push.ensures.kept is))

pub returns-in-Ok-clause-lanes : goal.returns-in-Ok-clause-lanes
returns-in-Ok-clause-lanes c lanes is =
    rw (c.in-Ok.is, none_said c.in-Ok.field-0 (λ from to time e. search rules)) (is ∙ kept_none lanes)
