use Rattle.std.proofs.Common.{rules}
use Rattle.session.specs.Sessions.{book_in, lanes_in, said_in}
use Rattle.session.proofs.Fits.{finds_room, goes_on, said_few}
use Rattle.session.proofs.sessions.Session.reply.Goals as goal

pub unwrap-requires : goal.unwrap-requires
unwrap-requires c =
    let after = c.answer-answer.new.self in
    let reply = said_in after c.answer-answer.result in
    let few = said_few after.timetable after.ring c.answer-answer.result c.answer-answer.ensures.within in
    finds_room c.args.page.now c.write.result reply few (search rules) (search rules)

pub returns-clause-goes_on : goal.returns-clause-goes_on
returns-clause-goes_on c =
    let own = c.args.self.now in
    let after = c.answer-answer.new.self in
    let reply = said_in after c.answer-answer.result in
    let few = said_few after.timetable after.ring c.answer-answer.result c.answer-answer.ensures.within in
    goes_on c.args.page.now c.write.result reply few (search rules) (search rules) c.write.new.page (search rules) c.unwrap.result c.unwrap.ensures (lanes_in own) (book_in own) (book_in after) c.args.line.now c.answer-answer.ensures.goes_on
