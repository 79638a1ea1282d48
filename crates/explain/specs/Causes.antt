-- Why the sheet refuses an entry: the cause names what the refusal only tells by its number.
use Rattle.std.specs.Prelude.{◌≡◌, ℕ, ◌<◌, ◌≤◌, ◌⊎◌, length}
use Rattle.lines.specs.declared.entry.Entry.{Entry}
use Rattle.lines.specs.declared.entry.Entry.TheVariants as entry
use Rattle.sheet.specs.declared.records.Order.{Order}
use Rattle.sheet.specs.declared.refusal.EntryRefusal.{EntryRefusal}
use Rattle.sheet.specs.declared.refusal.EntryRefusal.TheVariants as refusal
use Rattle.explain.specs.Facts.{AtGoal, Begins, Ends, Stands, Visits, reversed}
use Rattle.explain.specs.Lists.{Lists}
use Rattle.explain.specs.declared.cause.Cause.{Cause}
use Rattle.explain.specs.declared.cause.Cause.TheVariants as cause

-- why a carrier is refused so
abbrev pub CarrierCause : Lists → ℕ → ℕ → EntryRefusal → Cause → Type 0
CarrierCause lists start goal refusal.PlaceTooHigh why = ((why ≡ cause.PlaceTooHigh start) × (4095 < start)) ⊎ ((why ≡ cause.PlaceTooHigh goal) × (4095 < goal))
CarrierCause lists start goal refusal.LimitReached why = ((why ≡ cause.TooManyCarriers) × (64 ≤ length lists.carriers)) ⊎ ((why ≡ cause.TooManyStops) × (1024 ≤ length lists.stops))
CarrierCause lists start goal refusal.EndTaken why = ((c : ℕ) × (why ≡ cause.StartTaken start c) × Begins lists.carriers c start) ⊎ ((c : ℕ) × (why ≡ cause.GoalTaken goal c) × Ends lists.carriers c goal)
CarrierCause lists start goal refusal why = ⊥

-- why a stop is refused so
abbrev pub StopCause : Lists → ℕ → ℕ → EntryRefusal → Cause → Type 0
StopCause lists carrier place refusal.NoCarrier why = (why ≡ cause.NoCarrier carrier (length lists.carriers)) × (length lists.carriers ≤ carrier)
StopCause lists carrier place refusal.PlaceTooHigh why = (why ≡ cause.PlaceTooHigh place) × (4095 < place)
StopCause lists carrier place refusal.RouteAtGoal why = (goal : ℕ) × (why ≡ cause.AtGoal carrier goal) × AtGoal lists.carriers lists.stops carrier goal
StopCause lists carrier place refusal.PlaceOnRoute why = (s : ℕ) × (why ≡ cause.OnRoute carrier place s) × Visits lists.stops carrier place s
StopCause lists carrier place refusal.LimitReached why = (why ≡ cause.TooManyStops) × (1024 ≤ length lists.stops)
StopCause lists carrier place refusal why = ⊥

-- why a precedence, or the striking of one, is refused so
abbrev pub OrderCause : Lists → Order → EntryRefusal → Cause → Type 0
OrderCause lists asked refusal.NoCarrier why = ((why ≡ cause.NoCarrier asked.first (length lists.carriers)) × (length lists.carriers ≤ asked.first)) ⊎ ((why ≡ cause.NoCarrier asked.second (length lists.carriers)) × (length lists.carriers ≤ asked.second))
OrderCause lists asked refusal.SameCarrier why = (why ≡ cause.SameCarrier asked.first) × (asked.first ≡ asked.second)
OrderCause lists asked refusal.NotOnBothRoutes why = ((why ≡ cause.NotOnRoute asked.first asked.place) × ((s : ℕ) → ¬ Visits lists.stops asked.first asked.place s)) ⊎ ((why ≡ cause.NotOnRoute asked.second asked.place) × ((s : ℕ) → ¬ Visits lists.stops asked.second asked.place s))
OrderCause lists asked refusal.FirstsGoalOrSecondsStart why = ((why ≡ cause.FirstsGoal asked.first asked.place) × Ends lists.carriers asked.first asked.place) ⊎ ((why ≡ cause.SecondsStart asked.second asked.place) × Begins lists.carriers asked.second asked.place)
OrderCause lists asked refusal.AlreadyDecided why = ((why ≡ cause.Decided asked) × Stands lists.precedences asked) ⊎ ((why ≡ cause.Decided (reversed asked)) × Stands lists.precedences (reversed asked))
OrderCause lists asked refusal.LimitReached why = (why ≡ cause.TooManyPrecedences) × (2048 ≤ length lists.precedences)
OrderCause lists asked refusal.NothingToStrike why = (¬ Stands lists.precedences asked) × (((why ≡ cause.OtherWayRound (reversed asked)) × Stands lists.precedences (reversed asked)) ⊎ ((why ≡ cause.NoPrecedence asked) × ¬ Stands lists.precedences (reversed asked)))
OrderCause lists asked refusal why = ⊥

-- why an entry is refused so
abbrev pub CauseOf : Lists → Entry → EntryRefusal → Cause → Type 0
CauseOf lists (entry.Carrier start goal) = CarrierCause lists start goal
CauseOf lists (entry.Stop carrier place) = StopCause lists carrier place
CauseOf lists (entry.Precedence first second place) = OrderCause lists (record { first = first; second = second; place = place })
CauseOf lists (entry.Strike first second place) = OrderCause lists (record { first = first; second = second; place = place })
CauseOf lists (entry.Judge rule) = λ refusal why. ⊥
CauseOf lists (entry.Lane from to time) = λ refusal why. ⊥
