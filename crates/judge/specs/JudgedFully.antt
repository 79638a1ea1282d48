-- All that is promised of a judging.
use Rattle.std.specs.Prelude.{length}
use Rattle.sheet.specs.Book.{Book}
use Rattle.sheet.specs.Histories.{History, ◌▹◌}
use Rattle.judge.specs.FindingHistories.{GoesOn}
use Rattle.judge.specs.Histories.{Event, judged, Lawful}
use Rattle.judge.specs.Judged.{Judging, Judged, PassesExactly}
use Rattle.judge.specs.Settling.{Within}
use Rattle.judge.specs.Shown.{Concluded}

pub record JudgedFully (j : Judging) (b : Book) : Type 0 where
  -- the answer and the pages are those of the checks in their order
  pub judges : Judged j b
  -- with pages long enough, a complete sheet passes exactly when some good plan exists
  pub exactly : PassesExactly j b
  -- every lawful history goes on with this judging
  pub goes_on : (h : History Event) → Lawful h b → Lawful (h ▹ judged j) b
  -- the answer and the pages show what is to be found
  pub concludes : Concluded j b
  -- every lawful history goes on with what they show
  pub continues : GoesOn j b
  -- as many numbers as are answered are on the page
  pub within : Within (length j.pages.timetable) (length j.pages.ring) j.answer
