use Rattle.std.proofs.lemmas.Bool.{ltb-true, ltb-false}
use Rattle.std.proofs.Common.{length, sym}
use Rattle.yard_file.proofs.Noted.{all_lines, all_lines_more}
use Rattle.yard_file.proofs.files.YardFile.end.Goals as goal

pub returns-then-is_started : goal.returns-then-is_started
returns-then-is_started c bytes r =
    let started = c.if-is_started.ensures.whole r.begun r.line in
    let more = c.end_line.ensures.ended r.ended r.begun r.kept r.line in
    rw (← all_lines_more bytes r.ended r.begun r.split (ltb-true 0 (length r.begun) (sym started))) more

pub returns-else-is_started : goal.returns-else-is_started
returns-else-is_started c bytes r =
    let started = c.if-is_started.ensures.whole r.begun r.line in
    rw (← all_lines bytes r.ended r.begun r.split (ltb-false 0 (length r.begun) (sym started))) r.kept
