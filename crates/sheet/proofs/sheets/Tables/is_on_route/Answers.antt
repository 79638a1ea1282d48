use Rattle.std.proofs.Common.{rules}
use Rattle.sheet.proofs.Found.{on_route}
use Rattle.sheet.proofs.sheets.Tables.is_on_route.Goals as goal

pub returns : goal.returns
returns c = let route = on_route c.args.self.now c.args.visit.carrier c.args.visit.place in search rules
