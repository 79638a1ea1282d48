use Rattle.std.proofs.Common.{refl, rules}
use Rattle.sheet.specs.declared.sheets.Tables.{Tables}
use Rattle.sheet.proofs.Entered.{carries_strike}
use Rattle.sheet.proofs.sheets.Sheet.strike_precedence.Goals as goal

pub invariant_of-self : goal.invariant_of-self
invariant_of-self c =
    let self = c.args.self.now in
    let t : Tables = record { carriers = self.tables.carriers; stops = self.tables.stops; precedences = c.remove.new.self } in
    let kept = carries_strike self.tables t _ refl refl (c.remove.ensures.removed c.in_ok-index.ensures.within) c.in_ok-index.ensures.within self.sound self.numbered in
    search rules
