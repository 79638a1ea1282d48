use Rattle.std.proofs.Common.{rules}
use Rattle.sheet.proofs.Found.{stop_found}
use Rattle.sheet.proofs.sheets.Tables.stop_at.Goals as goal

pub returns-in_err-number-clause-refuses : goal.returns-in_err-number-clause-refuses
returns-in_err-number-clause-refuses c = search (rules, stop_found c.args.self.now c.find.result c.args.visit.carrier c.args.visit.place)

pub returns-clause-finds : goal.returns-clause-finds
returns-clause-finds c = search (rules, stop_found c.args.self.now c.find.result c.args.visit.carrier c.args.visit.place)
