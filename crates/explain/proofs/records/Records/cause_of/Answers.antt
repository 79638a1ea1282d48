use Rattle.std.proofs.Common.{⊎_elim}
use Rattle.explain.proofs.Named.{named}
use Rattle.explain.proofs.records.Records.cause_of.Goals as goal

pub returns-in-Carrier-clause-named : goal.returns-in-Carrier-clause-named
returns-in-Carrier-clause-named c = named c.args.self.now c.args.entry c.args.why c.carrier_cause.result (rw c.in-Carrier.is c.carrier_cause.ensures)

pub returns-in-Stop-clause-named : goal.returns-in-Stop-clause-named
returns-in-Stop-clause-named c = named c.args.self.now c.args.entry c.args.why c.stop_cause.result (rw c.in-Stop.is c.stop_cause.ensures)

pub returns-in-Precedence-clause-named : goal.returns-in-Precedence-clause-named
returns-in-Precedence-clause-named c =
    let cause_named = named c.args.self.now c.args.entry c.args.why c.order_cause.result in
    ⊎_elim (λ is. cause_named (rw is c.order_cause.ensures)) (λ is. cause_named (rw is c.order_cause.ensures)) c.in-Precedence.is
