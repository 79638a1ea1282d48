use Rattle.lags.proofs.Reversals.{turned}
use Rattle.lags.proofs.rings.write_from_lowest.Goals as goal

pub returns-clause-turned : goal.returns-clause-turned
returns-clause-turned c = turned _ _ _ _ _ _ c.copy_from_slice.ensures.after c.reverse.ensures.after c.lowest-low.ensures.within c.lowest-low.ensures.least c.rotate_left.ensures.after
