use Rattle.explain.proofs.records.Records.carrier_cause.Goals as goal

pub returns-in-EndTaken : goal.returns-in-EndTaken
returns-in-EndTaken c = rw c.in-EndTaken.is c.end_taken.ensures
