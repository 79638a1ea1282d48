use Rattle.std.proofs.Common.{sym, ◌∙◌}
use Rattle.std.proofs.lemmas.Result.{err_from_is_err_and}
use Rattle.yard_file.specs.Lines.{lines_of}
use Rattle.yard_file.specs.Laying.{lanes_said}
use Rattle.yard_file.proofs.Laid.{fault_kept, laid_kept}
use Rattle.yard_file.proofs.files.YardFile.lay.Goals as goal

pub returns : goal.returns
returns c bytes r =
    let e = c.end.ensures bytes r in
    let kept = c.as_slice.ensures.value ∙ e.lanes in
    let l = laid_kept (lanes_said (lines_of bytes)) c.as_slice.result.now c.lay.new.self kept c.in_ok-lay.ensures.outcome in
    (sym e.refusal ∙ c.in_default.is, l.0, l.1, l.2)

pub returns-in_err-lay : goal.returns-in_err-lay
returns-in_err-lay c bytes r =
    let e = c.end.ensures bytes r in
    let kept = c.as_slice.ensures.value ∙ e.lanes in
    let f = c.in_err-lay.ensures.outcome in
    let p = err_from_is_err_and c.from_residual.result c.from_residual.ensures.1 in
    rw (p.1, p.2) (sym e.refusal ∙ c.in_default.is, fault_kept (lanes_said (lines_of bytes)) c.in_err-lay.field-0.0 (rw kept at f.0), f.1)
