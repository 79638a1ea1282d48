use Rattle.std.proofs.Common.{rules}
use Rattle.session.specs.Sessions.{book_in, lanes_in, said_in}
use Rattle.session.proofs.Entered.{continues}
use Rattle.session.proofs.sessions.Session.answer.Goals as goal

pub returns-in_err-entry-clause-goes_on : goal.returns-in_err-entry-clause-goes_on
returns-in_err-entry-clause-goes_on c =
    let own = c.args.self.now in
    continues (lanes_in own) (book_in own) (book_in own) c.args.line.now (said_in own c.from_residual.result) (search rules)

pub returns-clause-goes_on : goal.returns-clause-goes_on
returns-clause-goes_on c =
    let own = c.args.self.now in
    let after = c.take.new.self in
    continues (lanes_in own) (book_in own) (book_in after) c.args.line.now (said_in after c.take.result) (search rules)
