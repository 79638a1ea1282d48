-- A refusal of the sheet has its cause.
use Rattle.std.proofs.Common.{ℕ, ◌≤◌, ◌⊎◌, length, Some, None, Option, IsSome, refl, inl, inr, arith}
use Rattle.std.proofs.lemmas.List.{length-map}
use Rattle.std.proofs.lemmas.Option.{slice_get_within, get_or_from_slice_get, slice_get-get_or}
use Rattle.lines.specs.declared.entry.Entry.{Entry}
use Rattle.lines.specs.declared.entry.Entry.TheVariants as entry
use Rattle.sheet.specs.declared.records.Order.{Order}
use Rattle.sheet.specs.declared.refusal.EntryRefusal.{EntryRefusal}
use Rattle.sheet.specs.declared.refusal.EntryRefusal.TheVariants.{LimitReached, NotOnBothRoutes, FirstsGoalOrSecondsStart, AlreadyDecided, NothingToStrike}
use Rattle.sheet.specs.Book.{Visits, StartOf, GoalOf, OnRoute, Decided}
use Rattle.sheet.specs.Calls.{Refuses, Checks, checks, pair_checks, Standing, CarriersFull, StopsFull, PrecedencesFull, Unknown}
use Rattle.sheet.specs.Calls.Checks.{check, no_more}
use Rattle.sheet.specs.Calls.Call.{enter_carrier, enter_stop, enter_precedence, strike_precedence}
use Rattle.sheet.specs.Records.{book_carrier, book_stop, book_precedence, no_carrier, no_stop, no_precedence}
use Rattle.sheet.proofs.SliceGet.{slice_get-map_some, slice_get-map_from}
use Rattle.explain.specs.Causes.{CarrierCause, StopCause, OrderCause, CauseOf}
use Rattle.explain.specs.Facts as facts
use Rattle.explain.specs.Facts.{Begins, Ends, AtGoal, IsOrder, reversed}
use Rattle.explain.specs.Found.{Finds}
use Rattle.explain.specs.Lists.{Lists, book_of}
use Rattle.explain.specs.Refused.{RefusedAs}
use Rattle.explain.specs.declared.cause.Cause.{Cause}
use Rattle.explain.specs.declared.cause.Cause.TheVariants as cause

-- no cause is named
abbrev pub Unnamed : {A : Type 0} → (A → Type 0) → Type 0
Unnamed {A = A} Why = (c : A) → ¬ Why c

module _ (lists : Lists) where
  -- what the book says of a number, and what the records say
  begins : (c u : ℕ) → StartOf (book_of lists) c u → Begins lists.carriers c u
  begins c u (v, e) =
      let from = slice_get-map_from book_carrier lists.carriers c _ e in
      (slice_get_within lists.carriers c from.0 from.1, grind (arith, get_or_from_slice_get lists.carriers c from.0 no_carrier from.1, from.2))

  ends : (c v : ℕ) → GoalOf (book_of lists) c v → Ends lists.carriers c v
  ends c v (u, e) =
      let from = slice_get-map_from book_carrier lists.carriers c _ e in
      (slice_get_within lists.carriers c from.0 from.1, grind (arith, get_or_from_slice_get lists.carriers c from.0 no_carrier from.1, from.2))

  pub visits : (s c u : ℕ) → Visits (book_of lists) s c u → facts.Visits lists.stops c u s
  visits s c u e =
      let from = slice_get-map_from book_stop lists.stops s _ e in
      let at = get_or_from_slice_get lists.stops s from.0 no_stop from.1 in
      (slice_get_within lists.stops s from.0 from.1, grind (arith, at, from.2), grind (arith, at, from.2))

  pub visits_back : (s c u : ℕ) → facts.Visits lists.stops c u s → Visits (book_of lists) s c u
  visits_back s c u v = grind (arith, v, slice_get-map_some book_stop lists.stops s _ (slice_get-get_or lists.stops s no_stop v.0))

  pub stands : (o : Order) → Standing (book_of lists) o.first o.second o.place → facts.Stands lists.precedences o
  stands o (k, e) =
      let from = slice_get-map_from book_precedence lists.precedences k _ e in
      let at = get_or_from_slice_get lists.precedences k from.0 no_precedence from.1 in
      (k, (slice_get_within lists.precedences k from.0 from.1, grind (arith, at, from.2), grind (arith, at, from.2), grind (arith, at, from.2)))

  pub stands_back : (o : Order) → facts.Stands lists.precedences o → Standing (book_of lists) o.first o.second o.place
  stands_back o (k, v) = (k, grind (arith, v, slice_get-map_some book_precedence lists.precedences k _ (slice_get-get_or lists.precedences k no_precedence v.0)))

  off_route : (c u : ℕ) → ¬ OnRoute (book_of lists) c u → (s : ℕ) → ¬ facts.Visits lists.stops c u s
  off_route c u off s v = off (s, visits_back s c u v)

  -- the limits, by the lists
  carriers_full : CarriersFull (book_of lists) → 64 ≤ length lists.carriers
  carriers_full full = omega (arith, full, length-map lists.carriers book_carrier)

  stops_full : StopsFull (book_of lists) → 1024 ≤ length lists.stops
  stops_full full = omega (arith, full, length-map lists.stops book_stop)

  precedences_full : PrecedencesFull (book_of lists) → 2048 ≤ length lists.precedences
  precedences_full full = omega (arith, full, length-map lists.precedences book_precedence)

  unknown : (c : ℕ) → Unknown (book_of lists) c → length lists.carriers ≤ c
  unknown c absent = omega (arith, absent, length-map lists.carriers book_carrier)

  carrier_named : (start goal : ℕ) (why : EntryRefusal) → Refuses (checks (book_of lists) (enter_carrier start goal)) why → ¬ Unnamed (CarrierCause lists start goal why)
  carrier_named start goal why (inl (inl high, e)) none = none (cause.PlaceTooHigh start) (rw e (inl (refl, high)))
  carrier_named start goal why (inl (inr high, e)) none = none (cause.PlaceTooHigh goal) (rw e (inr (refl, high)))
  carrier_named start goal why (inr (_, inl (inl full, e))) none = none cause.TooManyCarriers (rw e (inl (refl, carriers_full full)))
  carrier_named start goal why (inr (_, inl (inr full, e))) none = none cause.TooManyStops (rw e (inr (refl, stops_full full)))
  carrier_named start goal why (inr (_, inr (_, inl (inl (c, taken), e)))) none = none (cause.StartTaken start c) (rw e (inl (c, refl, begins c start taken)))
  carrier_named start goal why (inr (_, inr (_, inl (inr (c, taken), e)))) none = none (cause.GoalTaken goal c) (rw e (inr (c, refl, ends c goal taken)))
  carrier_named start goal why (inr (_, inr (_, inr last))) none = last.1

  stop_named : (c u : ℕ) (why : EntryRefusal) → Refuses (checks (book_of lists) (enter_stop c u)) why → ¬ Unnamed (StopCause lists c u why)
  stop_named c u why (inl (absent, e)) none = none (cause.NoCarrier c (length lists.carriers)) (rw e (refl, unknown c absent))
  stop_named c u why (inr (_, inl (high, e))) none = none (cause.PlaceTooHigh u) (rw e (refl, high))
  stop_named c u why (inr (_, inr (_, inl ((v, goal, on), e)))) none = none (cause.AtGoal c v) (rw e (v, refl, (ends c v goal, (on.0, visits on.0 c v on.1))))
  stop_named c u why (inr (_, inr (_, inr (_, inl (on, e))))) none = none (cause.OnRoute c u on.0) (rw e (on.0, refl, visits on.0 c u on.1))
  stop_named c u why (inr (_, inr (_, inr (_, inr (_, inl (full, e)))))) none = none cause.TooManyStops (rw e (refl, stops_full full))
  stop_named c u why (inr (_, inr (_, inr (_, inr (_, inr last))))) none = last.1

  module _ (o : Order) where
    -- the checks after those of the two carriers
    abbrev precedence_checks : Checks
    precedence_checks =
        check ((¬ OnRoute (book_of lists) o.first o.place) ⊎ (¬ OnRoute (book_of lists) o.second o.place)) NotOnBothRoutes
        (check (GoalOf (book_of lists) o.first o.place ⊎ StartOf (book_of lists) o.second o.place) FirstsGoalOrSecondsStart
        (check (Decided (book_of lists) o.first o.second o.place) AlreadyDecided
        (check (PrecedencesFull (book_of lists)) LimitReached
        no_more)))

    abbrev strike_checks : Checks
    strike_checks = check (¬ Standing (book_of lists) o.first o.second o.place) NothingToStrike no_more

    pair_named : (others : Checks) (why : EntryRefusal) → Refuses (pair_checks (book_of lists) o.first o.second others) why → (Refuses others why → ¬ Unnamed (OrderCause lists o why)) → ¬ Unnamed (OrderCause lists o why)
    pair_named others why (inl (inl absent, e)) later none = none (cause.NoCarrier o.first (length lists.carriers)) (rw e (inl (refl, unknown o.first absent)))
    pair_named others why (inl (inr absent, e)) later none = none (cause.NoCarrier o.second (length lists.carriers)) (rw e (inr (refl, unknown o.second absent)))
    pair_named others why (inr (_, inl (same, e))) later none = none (cause.SameCarrier o.first) (rw e (refl, same))
    pair_named others why (inr (_, inr (_, refused))) later none = later refused none

    order_named : (why : EntryRefusal) → Refuses (checks (book_of lists) (enter_precedence o.first o.second o.place)) why → ¬ Unnamed (OrderCause lists o why)
    order_named why refused = pair_named precedence_checks why refused later
      where
        later : Refuses precedence_checks why → ¬ Unnamed (OrderCause lists o why)
        later (inl (inl off, e)) none = none (cause.NotOnRoute o.first o.place) (rw e (inl (refl, off_route o.first o.place off)))
        later (inl (inr off, e)) none = none (cause.NotOnRoute o.second o.place) (rw e (inr (refl, off_route o.second o.place off)))
        later (inr (_, inl (inl goal, e))) none = none (cause.FirstsGoal o.first o.place) (rw e (inl (refl, ends o.first o.place goal)))
        later (inr (_, inl (inr start, e))) none = none (cause.SecondsStart o.second o.place) (rw e (inr (refl, begins o.second o.place start)))
        later (inr (_, inr (_, inl ((k, inl this), e)))) none = none (cause.Decided o) (rw e (inl (refl, stands o (k, this))))
        later (inr (_, inr (_, inl ((k, inr other), e)))) none = none (cause.Decided (reversed o)) (rw e (inr (refl, stands (reversed o) (k, other))))
        later (inr (_, inr (_, inr (_, inl (full, e))))) none = none cause.TooManyPrecedences (rw e (refl, precedences_full full))
        later (inr (_, inr (_, inr (_, inr last)))) none = last.1

    strike_named : (why : EntryRefusal) → Refuses (checks (book_of lists) (strike_precedence o.first o.second o.place)) why → ¬ Unnamed (OrderCause lists o why)
    strike_named why refused = pair_named strike_checks why refused later
      where
        later : Refuses strike_checks why → ¬ Unnamed (OrderCause lists o why)
        later (inl (gone, e)) none =
            let absent : ¬ facts.Stands lists.precedences o = λ s. gone (stands_back o s) in
            none (cause.NoPrecedence o) (rw e (absent, inr (refl, λ s. none (cause.OtherWayRound (reversed o)) (rw e (absent, inl (refl, s))))))
        later (inr last) none = last.1

  never_unnamed : (e : Entry) (why : EntryRefusal) → RefusedAs lists e why → ¬ Unnamed (CauseOf lists e why)
  never_unnamed (entry.Carrier start goal) why refused = carrier_named start goal why refused
  never_unnamed (entry.Stop carrier place) why refused = stop_named carrier place why refused
  never_unnamed (entry.Precedence first second place) why refused = order_named (record { first = first; second = second; place = place }) why refused
  never_unnamed (entry.Strike first second place) why refused = strike_named (record { first = first; second = second; place = place }) why refused
  never_unnamed (entry.Judge rule) why refused = absurd refused
  never_unnamed (entry.Lane from to time) why refused = absurd refused

  -- where a cause is found if there is one, one is found for a refusal of the sheet
  pub named : (e : Entry) (why : EntryRefusal) (result : Option Cause) → Finds (CauseOf lists e why) result → RefusedAs lists e why → IsSome result
  named e why (Some c) _ _ = refl
  named e why None none refused = absurd (never_unnamed e why refused none)
