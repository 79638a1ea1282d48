use Rattle.std.proofs.Common.{◌≤◌, arith, rules}
use Rattle.std.proofs.lemmas.Bool.Decides.{nat_tests}
use Rattle.lines.specs.declared.entry.Entry.TheVariants.{Judge}
use Rattle.lines.specs.Entries.{line_of}
use Rattle.lines.proofs.Writes.{placed_back}
use Rattle.yard.specs.Rules.{gap_of}
use Rattle.lines.proofs.write.write_judge.Goals as goal

pub returns-clause-back : goal.returns-clause-back
unfolding line_of
returns-clause-back c =
    let short : gap_of c.args.rule ≤ 36000 = grind (arith, nat_tests, c.in_ok-byte.ensures) in
    placed_back (Judge c.args.rule) c.args.page.now _ c.args.at _ short (search rules) (search rules)
