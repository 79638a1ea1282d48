use Rattle.std.proofs.Common.{refl, rules}
use Rattle.sheet.specs.declared.sheets.Tables.{Tables}
use Rattle.sheet.proofs.Entered.{carries_carrier}
use Rattle.sheet.proofs.sheets.Sheet.enter_carrier.Goals as goal

pub invariant_of-self : goal.invariant_of-self
invariant_of-self c =
    let self = c.args.self.now in
    let t : Tables = record { carriers = c.push.new.self; stops = c.push-2.new.self; precedences = self.tables.precedences } in
    let kept = carries_carrier self.tables t _ _ _ _ c.len-number.ensures.value c.len-stop.ensures.value (c.push.ensures.pushed c.in_ok-check_carrier.ensures.room.0) (c.push-2.ensures.pushed c.in_ok-check_carrier.ensures.room.1) refl self.sound self.numbered c.in_ok-check_carrier.ensures.checked in
    search rules
