use Rattle.std.proofs.Common.{arith, rules}
use Rattle.lines.specs.declared.entry.Entry.TheVariants.{Carrier, Stop, Precedence, Strike, Lane}
use Rattle.lines.specs.Entries.{line_of}
use Rattle.lines.proofs.Hexadecimal.{bytes_of_line}
use Rattle.lines.proofs.Writes.{placed_back}
use Rattle.lines.proofs.write.write_entry.Goals as goal

pub returns-in-Carrier-clause-back : goal.returns-in-Carrier-clause-back
unfolding line_of
returns-in-Carrier-clause-back c =
    rw c.in-Carrier.is (placed_back (Carrier c.in-Carrier.start c.in-Carrier.goal) c.args.page.now _ c.args.at _ (omega arith, omega arith) (search rules) (search rules))

pub returns-in-Stop-clause-back : goal.returns-in-Stop-clause-back
unfolding line_of
returns-in-Stop-clause-back c n input ok =
    let small = bytes_of_line _ _ (c.write_bytes-in-Stop.ensures.back n ok) in
    rw c.in-Stop.is (placed_back (Stop c.in-Stop.carrier c.in-Stop.place) c.args.page.now _ c.args.at _ (small 1 0 (search rules), omega arith) (search rules) (search rules) n input ok)

pub returns-in-Precedence-clause-back : goal.returns-in-Precedence-clause-back
unfolding line_of
returns-in-Precedence-clause-back c n input ok =
    let small = bytes_of_line _ _ (c.write_bytes-in-Precedence.ensures.back n ok) in
    rw c.in-Precedence.is (placed_back (Precedence c.in-Precedence.first c.in-Precedence.second c.in-Precedence.place) c.args.page.now _ c.args.at _ (small 1 0 (search rules), small 2 0 (search rules), omega arith) (search rules) (search rules) n input ok)

pub returns-in-Strike-clause-back : goal.returns-in-Strike-clause-back
unfolding line_of
returns-in-Strike-clause-back c n input ok =
    let small = bytes_of_line _ _ (c.write_bytes-in-Strike.ensures.back n ok) in
    rw c.in-Strike.is (placed_back (Strike c.in-Strike.first c.in-Strike.second c.in-Strike.place) c.args.page.now _ c.args.at _ (small 1 0 (search rules), small 2 0 (search rules), omega arith) (search rules) (search rules) n input ok)

pub returns-in-Lane-clause-after : goal.returns-in-Lane-clause-after
unfolding line_of
returns-in-Lane-clause-after c = rw c.in-Lane.is (search rules)

pub returns-in-Lane-clause-back : goal.returns-in-Lane-clause-back
unfolding line_of
returns-in-Lane-clause-back c =
    rw c.in-Lane.is (placed_back (Lane c.in-Lane.from c.in-Lane.to c.in-Lane.time) c.args.page.now _ c.args.at _ (omega arith, omega arith, omega arith) (search rules) (search rules))
