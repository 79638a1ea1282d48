-- What a judging concludes, and what its answer and its pages show of it.
use Rattle.std.specs.Prelude.{◌≡◌, ℕ, ◌<◌, ◌≤◌, min, List, length, take, Some, None, Ok, Err, Option, Result}
use Rattle.sheet.specs.Book.{Book}
use Rattle.judge.specs.declared.refusal.JudgeRefusal.{JudgeRefusal}
use Rattle.judge.specs.declared.refusal.JudgeRefusal.TheVariants.{PageTooShort, NotAtGoal, NoLane, Undecided, HeadOn, Ring}
use Rattle.judge.specs.Findings.{Setting, Finding, not_at_goal, no_lane, undecided, head_on, in_a_ring, passes, Finds}
use Rattle.judge.specs.Judged.{Judging}
use Rattle.judge.specs.Settling.{Pages, Front}
use Rattle.judge.specs.Routing.{Untouched}

-- a judging with room for so many numbers on each page: it finds something exactly when each stop has a number there
abbrev pub Concludes : Setting → Book → (room : ℕ) → Option Finding → Type 0
Concludes y b room None = room < length b.stops
Concludes y b room (Some finding) = (length b.stops ≤ room) × Finds y b finding

-- where and how a judging judges
abbrev pub setting_in : Judging → Setting
setting_in j = record { lanes = j.lanes; gap = j.gap; largest = j.largest }

-- how many numbers both pages have
abbrev pub room_of : Pages → ℕ
room_of p = min (length p.timetable) (length p.ring)

-- the answer and the pages show what was found; everything else on the pages stands
abbrev pub Shows : Pages → Result ℕ JudgeRefusal → Option Finding → Type 0
Shows p r None = (r ≡ Err PageTooShort) × Untouched p
Shows p r (Some (not_at_goal c)) = (r ≡ Err (NotAtGoal c)) × Untouched p
Shows p r (Some (no_lane t)) = (r ≡ Err (NoLane t)) × Untouched p
Shows p r (Some (undecided s t)) = (r ≡ Err (Undecided s t)) × Untouched p
Shows p r (Some (head_on s t)) = (r ≡ Err (HeadOn s t)) × Untouched p
Shows p r (Some (in_a_ring stops)) = (r ≡ Err (Ring (length stops))) × Front p.ring stops p.ring_after × (p.timetable_after ≡ p.timetable)
Shows p r (Some (passes times)) = (r ≡ Ok (length times)) × Front p.timetable times p.timetable_after × (p.ring_after ≡ p.ring)

-- what is shown by the timetable, the ring page and the answer that a judging leaves
abbrev pub shown_by : List ℕ → List ℕ → Result ℕ JudgeRefusal → Option Finding
shown_by timetable page (Ok n) = Some (passes (take n timetable))
shown_by timetable page (Err PageTooShort) = None
shown_by timetable page (Err (NotAtGoal c)) = Some (not_at_goal c)
shown_by timetable page (Err (NoLane t)) = Some (no_lane t)
shown_by timetable page (Err (Undecided s t)) = Some (undecided s t)
shown_by timetable page (Err (HeadOn s t)) = Some (head_on s t)
shown_by timetable page (Err (Ring k)) = Some (in_a_ring (take k page))

-- what a judging finds, its answer and its pages show
pub record Concluded (j : Judging) (b : Book) : Type 0 where
  pub found : Option Finding
  pub concludes : Concludes (setting_in j) b (room_of j.pages) found
  pub shown : Shows j.pages j.answer found
