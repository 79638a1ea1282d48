-- An answer and its pages show one finding only.
use Rattle.std.proofs.Common.{◌≡◌, ℕ, List, length, take, Option, Result, arith, rules}
use Rattle.std.proofs.lemmas.Grind.{common_steps}
use Rattle.sheet.specs.Book.{Book}
use Rattle.judge.specs.declared.refusal.JudgeRefusal.{JudgeRefusal}
use Rattle.judge.specs.Findings.{Finding}
use Rattle.judge.specs.Judged.{Judging}
use Rattle.judge.specs.Shown.{Concluded, Concludes, Shows, room_of, setting_in, shown_by}
use Rattle.judge.specs.Settling.{Pages, Front}

-- the numbers at the front of a page
front_taken : (before new after : List ℕ) → Front before new after → take (length new) after ≡ new
front_taken before new after e = grind (arith, common_steps)

shows_only : (p : Pages) (r : Result ℕ JudgeRefusal) (found : Option Finding) → Shows p r found → shown_by p.timetable_after p.ring_after r ≡ found
shows_only p r found shown = search (rules, front_taken)

-- and it is what the judging concludes
pub concludes_shown : (j : Judging) (b : Book) (room : ℕ) → room_of j.pages ≡ room → Concluded j b → Concludes (setting_in j) b room (shown_by j.pages.timetable_after j.pages.ring_after j.answer)
concludes_shown j b room e judged = rw (shows_only j.pages j.answer judged.found judged.shown, ← e) judged.concludes
