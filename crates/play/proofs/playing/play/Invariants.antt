use Rattle.std.proofs.Common.{take, vec_items}
use Rattle.sheet.specs.Sheets.{sheet_book}
use Rattle.play.proofs.Runs.{SoFar}
use Rattle.play.proofs.playing.play.Given as goal

abbrev pub invariant-loop-call : goal.invariant-loop-call
invariant-loop-call g l = SoFar g.Y.Yard.lanes g.R.FollowingRule.gaps g.R.FollowingRule.LARGEST_GAP (take l.call-index l.calls) (vec_items l.answers) (sheet_book l.sheet)
