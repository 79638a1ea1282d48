use Rattle.std.proofs.Common.{[], ◌∷◌, ◌++◌}
use Rattle.yard_file.proofs.Split.{split_end, split_more}
use Rattle.yard_file.proofs.files.YardFile.push.Goals as goal

pub returns-then-byte-eq10 : goal.returns-then-byte-eq10
returns-then-byte-eq10 c bytes r =
    let more = c.end_line.ensures.ended r.ended r.begun r.kept r.line in
    rw c.if-byte-eq10.true (record { ended = r.ended ++ r.begun ∷ []; begun = []; split = split_end bytes r.ended r.begun r.split; kept = more; line = c.end_line.ensures.line })

pub returns-else-byte-eq10 : goal.returns-else-byte-eq10
returns-else-byte-eq10 c bytes r = record {
  ended = r.ended;
  begun = r.begun ++ c.args.byte ∷ [];
  split = split_more bytes r.ended r.begun c.args.byte c.if-byte-eq10.false r.split;
  kept = record { lanes = r.kept.lanes; refusal = r.kept.refusal };
  line = c.push.ensures.whole r.begun r.line;
}
