-- What is concluded and shown, as the answer says it in full.
use Rattle.std.proofs.Common.{length, Option, refl, rules}
use Rattle.sheet.specs.Book.{Book}
use Rattle.judge.specs.Findings.{Finding}
use Rattle.judge.specs.Judged.{Judging, Judged}
use Rattle.judge.specs.JudgedFully.{JudgedFully}
use Rattle.judge.specs.Settling.{Within}
use Rattle.judge.specs.Shown.{Concluded, Concludes, Shows, room_of, setting_in}
use Rattle.judge.proofs.Judgements.{exactly}

module _ (j : Judging) (b : Book) where
  in_full : (found : Option Finding) → Concludes (setting_in j) b (room_of j.pages) found → Shows j.pages j.answer found → Judged j b
  in_full found concludes shown = search rules

  judged_in_full : Concluded j b → Judged j b
  judged_in_full c = in_full c.found c.concludes c.shown

  -- all that is promised of it
  pub judged_fully : Concluded j b → Within (length j.pages.timetable) (length j.pages.ring) j.answer → JudgedFully j b
  judged_fully c within = record {
    judges = judged_in_full c;
    exactly = exactly j b c;
    goes_on = λ h l. (b, l, (judged_in_full c, refl));
    concludes = c;
    continues = record { found = c.found; shown = c.shown; lawful = λ h l. (b, l, (c.concludes, refl)) };
    within = within;
  }
