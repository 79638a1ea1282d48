use Rattle.std.proofs.Common.{◌≡◌, set, Some, refl, arith, rules}
use Rattle.std.specs.List.{slice_get}
use Rattle.std.proofs.lemmas.Option.{slice_get-get_or}
use Rattle.sheet.specs.declared.sheets.Tables.{Tables}
use Rattle.sheet.proofs.Entered.{carries_stop}
use Rattle.sheet.proofs.sheets.Sheet.enter_stop.Goals as goal

pub invariant_of-self : goal.invariant_of-self
invariant_of-self c =
    let self = c.args.self.now in
    let cs = self.tables.carriers in
    let x = c.index_mut-carrier_record.result.now in
    let t : Tables = record { carriers = set cs c.from.result c.go_on.new.self; stops = c.push.new.self; precedences = self.tables.precedences } in
    let read : slice_get cs c.args.carrier ≡ Some x = grind (arith, slice_get-get_or cs c.args.carrier x) in
    let kept = carries_stop self.tables t c.args.carrier c.args.place _ x c.len-number.ensures.value read (λ i. set cs (c.from.ensures i) (c.go_on.ensures i)) (c.push.ensures.pushed c.in_ok-check_stop.ensures.room.1) refl self.sound self.numbered c.in_ok-check_stop.ensures.checked in
    search rules
