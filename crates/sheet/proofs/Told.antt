-- What a carrier's record tells of the book.
use Rattle.std.proofs.Common.{◌≡◌, ℕ, ◌↔◌, map, Some, arith}
use Rattle.std.specs.List.{slice_get}
use Rattle.std.proofs.lemmas.List.{length-map}
use Rattle.std.proofs.lemmas.Option.{slice_get_within}
use Rattle.sheet.specs.declared.records.Carrier.{Carrier}
use Rattle.sheet.specs.declared.sheets.Tables.{Tables}
use Rattle.sheet.specs.Book.{Book, Goes, StartOf, GoalOf, ReachedGoal, Latest}
use Rattle.sheet.specs.Calls.{Unknown}
use Rattle.sheet.specs.Records.{book_carrier}
use Rattle.sheet.specs.Sound.{Sound, Holds}
use Rattle.sheet.specs.Tables.{book_of, NumberedTables}
use Rattle.sheet.proofs.SliceGet.{slice_get-map_some}
use Rattle.sheet.proofs.Stable.{sound_held, numbered_held}
use Rattle.sheet.proofs.Words.{one_visit}

-- carrier c's latest stop is at its goal just when its route has reached it
pub at_goal : (b : Book) → Sound b → (c s u start goal : ℕ) → Goes b c start goal → Latest b c s u → ReachedGoal b c → u ≡ goal
at_goal b sound c s u start goal goes late reached = grind (arith, one_visit b)

module _ (t : Tables) (c : ℕ) (x : Carrier) (read : slice_get t.carriers c ≡ Some x) where
  goes_told : Goes (book_of t) c x.start x.goal
  goes_told = slice_get-map_some book_carrier t.carriers c x read

  -- it is on the sheet
  pub known_told : ¬ Unknown (book_of t) c
  known_told past = omega (arith, slice_get_within (map book_carrier t.carriers) c _ goes_told)

  -- its start, and its goal
  pub start_told : (u : ℕ) → (x.start ≡ u) ↔ StartOf (book_of t) c u
  start_told u = (
    λ e. (x.goal, rw (← e) goes_told),
    λ by. grind (arith, goes_told),
  )

  pub goal_told : (v : ℕ) → (x.goal ≡ v) ↔ GoalOf (book_of t) c v
  goal_told v = (
    λ e. (x.start, rw (← e) goes_told),
    λ by. grind (arith, goes_told),
  )

  module _ (sound : Holds (Sound (book_of t))) (numbered : Holds (NumberedTables t)) where
    latest_told : Latest (book_of t) c x.last_stop x.last_place
    latest_told = (numbered_held _ _ _ numbered).latest c x read

    -- its route has reached its goal just when its latest stop is there
    pub reached_told : (x.last_place ≡ x.goal) ↔ ReachedGoal (book_of t) c
    reached_told = (
      λ e. (x.goal, (x.start, goes_told), (x.last_stop, rw (← e) latest_told.here)),
      λ reached. at_goal (book_of t) (sound_held _ sound) c _ _ _ _ goes_told latest_told reached,
    )

-- what the checks of a stop and of a precedence ask
pub ruleset told = (known_told, start_told, goal_told, reached_told, length-map)
