use Rattle.console.proofs.files.lay_file.Goals as goal

pub returns-clause-laid : goal.returns-clause-laid
returns-clause-laid g c =
    let r = c.in_ok-read.ensures in
    record { bytes = r.bytes; all = r.all; outcome = c.lay.ensures r.bytes r.has_read }
