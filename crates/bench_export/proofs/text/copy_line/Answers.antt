use Rattle.std.proofs.Common.{◌≡◌, ◌+◌, ◌-◌, ◌≤◌, ◌++◌, ◌∷◌, [], length, arith, rules, nat_le, true, take, length-append, length-take}
use Rattle.std.proofs.lemmas.Bool.Decides.{nat_tests}
use Rattle.lines.specs.Entries.{line_of}
use Rattle.lines.specs.Pages.{written}
use Rattle.lines.specs.Reading.{reading}
use Rattle.bench_export.specs.Copies.{written_back}
use Rattle.bench_export.proofs.Copies.{with_newline}
use Rattle.bench_export.proofs.text.copy_line.Goals as goal

pub returns-clause-after : goal.returns-clause-after
returns-clause-after c =
    let page = c.args.page.now in
    let line = line_of c.in-Ok.entry in
    let room = c.in-Some.room in
    let size = length-take room page in
    let fits : c.args.at + length line ≤ room = search rules in
    let count : c.in-Ok-write_entry.count ≡ length line = search rules in
    let after : c.write_entry.new.page ≡ written (take room page) c.args.at line = search rules in
    let read : written_back (reading c.args.input c.args.line.now) ≡ line ++ 10 ∷ [] = search rules in
    let whole = with_newline page line c.args.at room (omega arith) fits in
    let long = length-append line (10 ∷ []) in
    let has_room : nat_le (length (line ++ 10 ∷ [])) (length page - c.args.at) ≡ true = grind (arith, nat_tests) in
    rw (after, count, read, has_room) whole
