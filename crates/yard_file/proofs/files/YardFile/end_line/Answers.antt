use Rattle.std.proofs.Common.{◌∙◌}
use Rattle.yard_file.proofs.Noted.{ended_more}
use Rattle.yard_file.proofs.files.YardFile.end_line.Goals as goal

pub returns-clause-ended : goal.returns-clause-ended
returns-clause-ended c ended begun before keeps =
    let own = c.args.self.now in
    let read = c.read_entry-read.ensures.kept begun (c.line.ensures ∙ keeps) in
    ended_more own _ ended begun c.read_entry-read.result read c.note.ensures.lanes c.note.ensures.refusal before
