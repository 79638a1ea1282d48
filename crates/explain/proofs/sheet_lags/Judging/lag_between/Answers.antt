use Rattle.explain.proofs.Finds.{finds_or}
use Rattle.explain.proofs.sheet_lags.Judging.lag_between.Goals as goal

pub returns : goal.returns
returns c = rw c.or.ensures (finds_or _ _ c.travel_lag.result c.waiting_lag.result c.travel_lag.ensures c.waiting_lag.ensures)
