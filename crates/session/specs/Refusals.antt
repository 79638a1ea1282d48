-- The number of each refusal, and what it tells.
use Rattle.std.specs.Prelude.{ℕ}
use Rattle.judge.specs.Refusals as judging
use Rattle.lines.specs.Refusals as reading
use Rattle.sheet.specs.Refusals as entering
use Rattle.session.specs.declared.answer.Refusal.{Refusal}
use Rattle.session.specs.declared.answer.Refusal.TheVariants.{Line, Entry, Judge}

abbrev pub number_of : Refusal → ℕ
number_of (Line why) = reading.number_of why
number_of (Entry why) = entering.number_of why
number_of (Judge why) = judging.number_of why

abbrev pub told_by : Refusal → ℕ × ℕ
told_by (Line why) = (reading.told_by why, 0)
told_by (Entry why) = (0, 0)
told_by (Judge why) = judging.told_by why
