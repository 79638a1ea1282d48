-- Why a sheet does not pass: the cause names what the refusal only tells by a number or two.
use Rattle.std.specs.Prelude.{◌≡◌, ◌≢◌, ℕ, ◌<◌, length, Some, None, Option, slice_index_or}
use Rattle.sheet.specs.declared.records.Carrier.{Carrier}
use Rattle.sheet.specs.declared.records.Order.{Order}
use Rattle.sheet.specs.declared.records.Stop.{Stop}
use Rattle.sheet.specs.Records.{no_carrier, no_stop}
use Rattle.judge.specs.declared.refusal.JudgeRefusal.{JudgeRefusal}
use Rattle.judge.specs.declared.refusal.JudgeRefusal.TheVariants as refusal
use Rattle.explain.specs.Facts.{GoesTo, Stands, reversed}
use Rattle.explain.specs.Lists.{Lists}
use Rattle.explain.specs.declared.judge_cause.JudgeCause.{JudgeCause}
use Rattle.explain.specs.declared.judge_cause.JudgeCause.TheVariants as cause

-- the carrier and the stop of this number
abbrev carrier_at : Lists → ℕ → Carrier
carrier_at lists c = slice_index_or lists.carriers c no_carrier

abbrev pub stop_at : Lists → ℕ → Stop
stop_at lists s = slice_index_or lists.stops s no_stop

-- there are stops of these two numbers
abbrev pub Both : Lists → ℕ → ℕ → Type 0
Both lists s t = (s < length lists.stops) × (t < length lists.stops)

-- the carrier of stop s goes first at the place of stop s, before that of stop t
abbrev pub order_of : Lists → ℕ → ℕ → Order
order_of lists s t = record { first = (stop_at lists s).carrier; second = (stop_at lists t).carrier; place = (stop_at lists s).place }

-- after stop s its carrier goes to the place of stop t, and it goes first at its own place
abbrev pub Opposes : Lists → ℕ → ℕ → Type 0
Opposes lists s t = GoesTo lists.stops s (stop_at lists t).place × Stands lists.precedences (order_of lists s t)

-- the cause that carrier c stands short of its goal; that no lane leads from stop p to stop s; that the carriers of stops
-- s and t meet at the place undecided; that they are set head on
abbrev short_of_goal : Lists → ℕ → JudgeCause
short_of_goal lists c = cause.NotAtGoal c (carrier_at lists c).last_stop (carrier_at lists c).last_place (carrier_at lists c).goal

abbrev undriven : Lists → ℕ → ℕ → JudgeCause
undriven lists p s = cause.NoLane (stop_at lists s).carrier s (stop_at lists p).place (stop_at lists s).place

abbrev unordered : Lists → ℕ → ℕ → JudgeCause
unordered lists s t = cause.Undecided (stop_at lists s).carrier s (stop_at lists t).carrier t (stop_at lists s).place

abbrev opposed : Lists → ℕ → ℕ → JudgeCause
opposed lists s t = cause.HeadOn (stop_at lists s).carrier s (stop_at lists s).place (stop_at lists t).carrier t (stop_at lists t).place

module _ (lanes : ℕ → ℕ → Option ℕ) (lists : Lists) where
  -- why a sheet does not pass so
  abbrev pub JudgeCauseOf : JudgeRefusal → JudgeCause → Type 0
  JudgeCauseOf (refusal.NotAtGoal c) why = (why ≡ short_of_goal lists c) × (c < length lists.carriers) × ((carrier_at lists c).last_place ≢ (carrier_at lists c).goal)
  JudgeCauseOf (refusal.NoLane s) why = (p : ℕ) × (why ≡ undriven lists p s) × Both lists p s × ((stop_at lists s).previous ≡ Some p) × (lanes (stop_at lists p).place (stop_at lists s).place ≡ None)
  JudgeCauseOf (refusal.Undecided s t) why = (why ≡ unordered lists s t) × Both lists s t × ((stop_at lists s).carrier ≢ (stop_at lists t).carrier) × ((stop_at lists s).place ≡ (stop_at lists t).place) × (¬ Stands lists.precedences (order_of lists s t)) × ¬ Stands lists.precedences (reversed (order_of lists s t))
  JudgeCauseOf (refusal.HeadOn s t) why = (why ≡ opposed lists s t) × Both lists s t × Opposes lists s t × Opposes lists t s
  JudgeCauseOf (refusal.Ring stops) why = why ≡ cause.Ring stops
  JudgeCauseOf refusal.PageTooShort why = ⊥
