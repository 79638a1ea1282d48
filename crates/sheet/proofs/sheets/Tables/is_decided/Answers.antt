use Rattle.std.proofs.Common.{arith}
use Rattle.sheet.proofs.Found.{standing}
use Rattle.sheet.proofs.sheets.Tables.is_decided.Goals as goal

pub returns-else-has : goal.returns-else-has
returns-else-has c =
    let o = c.args.order in
    grind (arith, standing c.args.self.now o.first o.second o.place, standing c.args.self.now o.second o.first o.place)
