use Rattle.std.proofs.Common.{refl, rules}
use Rattle.sheet.specs.declared.sheets.Tables.{Tables}
use Rattle.sheet.proofs.Entered.{carries_precedence}
use Rattle.sheet.proofs.sheets.Sheet.enter_precedence.Goals as goal

pub invariant_of-self : goal.invariant_of-self
invariant_of-self c =
    let self = c.args.self.now in
    let t : Tables = record { carriers = self.tables.carriers; stops = self.tables.stops; precedences = c.push.new.self } in
    let passed = c.in_ok-first_stop.ensures in
    let kept = carries_precedence self.tables t _ _ _ _ _ refl refl (c.push.ensures.pushed passed.room) self.sound self.numbered passed.checked passed.stops in
    search rules
