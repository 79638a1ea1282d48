use Rattle.std.proofs.Common.{refl, rules}
use Rattle.sheet.specs.Calls.{enter_carrier, enter_stop, enter_precedence, strike_precedence}
use Rattle.sheet.specs.Sheets.{sheet_book}
use Rattle.session.specs.Sessions.{book_in, lanes_in}
use Rattle.session.proofs.Entered.{called, judged_under}
use Rattle.session.proofs.sessions.Session.take.Goals as goal

pub returns-in-Carrier-clause-replied : goal.returns-in-Carrier-clause-replied
returns-in-Carrier-clause-replied c _ _ =
    let own = c.args.self.now in
    let did = c.enter_carrier in
    called (lanes_in own) (book_in own) (sheet_book did.new.self) c.args.entry own.timetable own.ring (enter_carrier c.in-Carrier.start c.in-Carrier.goal) did.result c.entered.result (rw c.in-Carrier.is (did.result, refl)) (did.ensures.answers, did.ensures.leaves) c.entered.ensures.value

pub returns-in-Stop-clause-replied : goal.returns-in-Stop-clause-replied
returns-in-Stop-clause-replied c _ _ =
    let own = c.args.self.now in
    let did = c.enter_stop in
    called (lanes_in own) (book_in own) (sheet_book did.new.self) c.args.entry own.timetable own.ring (enter_stop c.in-Stop.carrier c.in-Stop.place) did.result c.entered-in-Stop.result (rw c.in-Stop.is (did.result, refl)) (did.ensures.answers, did.ensures.leaves) c.entered-in-Stop.ensures.value

pub returns-in-Precedence-clause-replied : goal.returns-in-Precedence-clause-replied
returns-in-Precedence-clause-replied c _ _ =
    let own = c.args.self.now in
    let did = c.enter_precedence in
    called (lanes_in own) (book_in own) (sheet_book did.new.self) c.args.entry own.timetable own.ring (enter_precedence c.in-Precedence.first c.in-Precedence.second c.in-Precedence.place) did.result c.entered-in-Precedence.result (rw c.in-Precedence.is (did.result, refl)) (did.ensures.answers, did.ensures.leaves) c.entered-in-Precedence.ensures.value

pub returns-in-Strike-clause-replied : goal.returns-in-Strike-clause-replied
returns-in-Strike-clause-replied c _ _ =
    let own = c.args.self.now in
    let did = c.strike_precedence in
    called (lanes_in own) (book_in own) (sheet_book did.new.self) c.args.entry own.timetable own.ring (strike_precedence c.in-Strike.first c.in-Strike.second c.in-Strike.place) did.result c.entered-in-Strike.result (rw c.in-Strike.is (did.result, refl)) (did.ensures.answers, did.ensures.leaves) c.entered-in-Strike.ensures.value

pub returns-in-Judge-clause-replied : goal.returns-in-Judge-clause-replied
returns-in-Judge-clause-replied c = search (rules, judged_under)
