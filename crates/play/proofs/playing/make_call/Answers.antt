use Rattle.sheet.proofs.Facts.{sound_of}
use Rattle.play.proofs.Runs.{entered_event, judged_event}
use Rattle.play.proofs.playing.make_call.Goals as goal

pub returns-in-EnterCarrier : goal.returns-in-EnterCarrier
returns-in-EnterCarrier g c =
    rw c.in-EnterCarrier.is (entered_event _ c.enter_carrier.result c.enter_carrier.ensures.answers c.enter_carrier.ensures.leaves)

pub returns-in-EnterStop : goal.returns-in-EnterStop
returns-in-EnterStop g c =
    rw c.in-EnterStop.is (entered_event _ c.enter_stop.result c.enter_stop.ensures.answers c.enter_stop.ensures.leaves)

pub returns-in-EnterPrecedence : goal.returns-in-EnterPrecedence
returns-in-EnterPrecedence g c =
    rw c.in-EnterPrecedence.is (entered_event _ c.enter_precedence.result c.enter_precedence.ensures.answers c.enter_precedence.ensures.leaves)

pub returns-in-StrikePrecedence : goal.returns-in-StrikePrecedence
returns-in-StrikePrecedence g c =
    rw c.in-StrikePrecedence.is (entered_event _ c.strike_precedence.result c.strike_precedence.ensures.answers c.strike_precedence.ensures.leaves)

pub returns-in_ok-judge_sheet-in-Judge : goal.returns-in_ok-judge_sheet-in-Judge
returns-in_ok-judge_sheet-in-Judge g c =
    rw c.in-Judge.is (judged_event _ c.in_ok-judge_sheet-in-Judge.field-0 (sound_of c.args.sheet.now).few_stops c.in_ok-judge_sheet-in-Judge.ensures)
