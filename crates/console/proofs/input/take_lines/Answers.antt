use Rattle.std.proofs.Common.{length, sym}
use Rattle.std.proofs.lemmas.Bool.{ltb-true, ltb-false}
use Rattle.console.proofs.Taken.{all_taken, all_taken_more}
use Rattle.console.proofs.input.take_lines.Goals as goal

pub returns-in_ok-take_line : goal.returns-in_ok-take_line
returns-in_ok-take_line g c =
    let e = c.in_ok-take_chunks.ensures in
    let h = e.3 in
    let started = c.if-is_started.ensures.whole h.begun h.kept in
    let took = rw c.line.ensures at c.in_ok-take_line.ensures in
    record {
      bytes = e.0;
      read = e.1;
      ended = e.2;
      taken = all_taken_more g.T.TakesLines.takes e.0 _ _ _ _ _ _ _ h (ltb-true 0 (length h.begun) (sym started)) took;
    }

pub returns-else-is_started : goal.returns-else-is_started
returns-else-is_started g c =
    let e = c.in_ok-take_chunks.ensures in
    let h = e.3 in
    let started = c.if-is_started.ensures.whole h.begun h.kept in
    record {
      bytes = e.0;
      read = e.1;
      ended = e.2;
      taken = all_taken g.T.TakesLines.takes e.0 _ _ _ _ _ h (ltb-false 0 (length h.begun) (sym started));
    }
