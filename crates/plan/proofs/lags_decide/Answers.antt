use Rattle.plan.proofs.Decided.{decide_in}
use Rattle.plan.proofs.lags_decide.Goals as goal

pub returns : goal.returns
returns c = decide_in
