-- From what judging found to what it answers, in the words of the subject.
use Rattle.std.proofs.Common.{◌≡◌, ℕ, ◌≤◌, ◌≢◌, max, Bool, true, false, cond, eqb, ◌⊎◌, List, length, slice_index, ℤ, IfSome, is_ok, Some, None, Ok, Err, Option, Result, sym, refl, ap, ◌∙◌, ⊎_elim, arith, rules}
use Rattle.std.proofs.lemmas.List.{length-map}
use Rattle.std.proofs.lemmas.Int.{ints}
use Rattle.std.proofs.lemmas.Bool.Decides.{nat_tests}
use Rattle.std.proofs.lemmas.Bool.{cases_eq, eq-eqb, ne_eqb}
use Rattle.yard.specs.Limits.{LaneWithin}
use Rattle.lags.specs.Ways.{Ring as RingOf, Solution, Least}
use Rattle.lags.proofs.Ways.{least_over, ring_over}
use Rattle.sheet.specs.declared.records.Precedence.{Precedence}
use Rattle.sheet.specs.declared.records.Stop.{Stop}
use Rattle.sheet.specs.declared.sheets.Sheet.{Sheet}
use Rattle.sheet.specs.Book.{Book, GoalOf, Visits, Next, Starts}
use Rattle.sheet.specs.Records.{book_stop}
use Rattle.sheet.specs.Sheets.{carriers_of, stops_of, precedences_of, sheet_book}
use Rattle.sheet.proofs.Facts as facts
use Rattle.plan.specs.Lags.{Lag, travel, wait}
use Rattle.plan.specs.Plans.{Lanes, Gaps, Earliest, Possible, Complete, Opposed}
use Rattle.plan.specs.Theorems.{Orderly, Positive, FromZero}
use Rattle.plan.proofs.Decided.{decide_in}
use Rattle.judge.specs.declared.refusal.JudgeRefusal.{JudgeRefusal}
use Rattle.judge.specs.declared.refusal.JudgeRefusal.TheVariants.{PageTooShort, NotAtGoal, NoLane, Undecided, HeadOn, Ring}
use Rattle.judge.specs.Findings.{Setting, Finding, not_at_goal, no_lane, undecided, head_on, in_a_ring, passes, Finds, Impossible}
use Rattle.judge.specs.Judged.{Judging, Away, CutOff, UndecidedAt, PassesExactly}
use Rattle.judge.specs.Shown.{Concludes, Shows, Concluded, room_of, setting_in}
use Rattle.judge.specs.declared.legs.Leg.{Leg}
use Rattle.judge.specs.Legs.{Legs, NoLaneTo, ShortOfGoal, time_to}
use Rattle.judge.specs.Lowest.{Lowest, LowestPair}
use Rattle.judge.specs.Meetings.{Leads, OpenMeeting, LowestOpposed}
use Rattle.judge.specs.Routing.{Untouched, WorkedOut, TurnedDown, Routed}
use Rattle.judge.specs.Settling.{Pages}
use Rattle.judge.specs.Waits.{Between}
use Rattle.judge.proofs.Meant as meant

-- the lowest of which something holds, in other words
lowest_as : (P Q : ℕ → Type 0) → ((n : ℕ) → P n → Q n) → ((n : ℕ) → Q n → P n) → (n : ℕ) → Lowest P n → Lowest Q n
lowest_as P Q to from n l = search rules

lowest_pair_as : (P Q : ℕ → ℕ → Type 0) → ((s t : ℕ) → P s t → Q s t) → ((s t : ℕ) → Q s t → P s t) → (s t : ℕ) → LowestPair P s t → LowestPair Q s t
lowest_pair_as P Q to from s t l = search rules

module _ (sheet : Sheet) (lanes : Lanes) (gap : Gaps) (largest : ℕ) (limited : (from to : ℕ) → IfSome (lanes from to) (λ time. LaneWithin from to time)) where
  abbrev b : Book
  b = sheet_book sheet

  abbrev ss : List Stop
  ss = stops_of sheet

  abbrev ps : List Precedence
  ps = precedences_of sheet

  stops_long : length b.stops ≡ length ss
  stops_long = length-map ss book_stop

  positive : Positive lanes
  positive u v d e = let w : LaneWithin u v d = rw e at (limited u v) in w.3

  -- no lag ends where a route starts
  no_lag_to_start : (s t : ℕ) (w : ℤ) → Lag lanes gap b s t w → (c u : ℕ) → ¬ Starts b c t u
  no_lag_to_start s t w (travel {c = e} {u = x} {v = v} leg) c u at =
      let o = facts.one_visit sheet t e v c u leg.next.there at.here in
      at.first s x leg.next.later (rw o.0 at leg.next.here)
  no_lag_to_start s t w (wait k {first = first} {second = second} {u = x} stands leg visit) c u at =
      let f = facts.second_follows sheet k first second x t stands visit in
      let o = facts.one_visit sheet t second x c u visit at.here in
      at.first f.0 f.1 f.2.later (cc (f.2.here, o.0))

  -- the least solution is 0 where a route starts
  from_zero : (α : ℕ → ℕ) → Least (Lag lanes gap b) α → FromZero b α
  from_zero α (keeps, least) c s u starts =
      let β : ℕ → ℕ = λ t. cond (eqb t s) 0 (α t) in
      let low : (t : ℕ) → β t ≤ α t = λ t. search (rules, nat_tests) in
      let kept : Solution (Lag lanes gap b) β = λ r t w lag.
      let ne : t ≢ s = λ e. no_lag_to_start r t w lag c u (rw e starts) in
      let same : β t ≡ α t = rw (ne_eqb t s ne) in
      let k = keeps r t w lag in
      let l = low r in
      omega (arith, ints) in
      let z : β s ≡ 0 = rw (eq-eqb s s refl) in
      let l = least β kept s in
      omega arith

  -- a sheet whose routes are all home
  module _ (home : (c : ℕ) → ¬ ShortOfGoal (carriers_of sheet) c) where
    all_home : (c : ℕ) → ¬ Away b c
    all_home c a = home c (meant.short sheet c a)

    reached : (c v : ℕ) → GoalOf b c v → (s : ℕ) × Visits b s c v
    reached c v g =
        let f = facts.goes_from sheet c g.0 v g.1 in
        ⊎_elim
        (λ e. (f.0.last_stop, rw f.3 at (facts.stops_at_goal sheet c f.0 f.1 e)))
        (λ ne. absurd (all_home c (record { goal = v; its_goal = g; not_reached = λ (t, visit). facts.no_stop_at_goal sheet c f.0 f.1 ne t (rw f.3 visit) })))
        (cases_eq f.0.last_place f.0.goal)

    module _ (legs : List Leg) (known : Legs lanes ss (length ss) legs) where
      on_lanes : (c s u t v : ℕ) → Next b c s u t v → (d : ℕ) × (lanes u v ≡ Some d)
      on_lanes c s u t v on =
          let p = meant.previous sheet lanes c s u t v on in
          let here = meant.visited sheet s c u on.here in
          let there = meant.visited sheet t c v on.there in
          (time_to legs t, rw (here.2, there.2) at (known.timed t s there.0 p))

      all_on_lanes : (t : ℕ) → ¬ CutOff lanes b t
      all_on_lanes t o = let l = on_lanes o.c o.s o.u t o.v o.step in cc (l.1, o.no_lane)

      orderly : Orderly lanes b
      orderly = record {
        differ = facts.two_carriers sheet;
        goes_on = λ k first second u s stands visit.
            let g = facts.goes sheet s first u visit in
            let goal : GoalOf b first g.1 = (g.0, g.2) in
            let at = reached first g.1 goal in
            let on = facts.first_goes_on sheet k first second u s stands visit (g.1, goal, at) in
            let lane = on_lanes first s u on.0 on.1 on.2 in
            (on.0, on.1, lane.0, record { next = on.2; lane = lane.1 });
      }

      abbrev Listed : ℕ → ℕ → ℤ → Type 0
      Listed = Between gap ss legs ps

      -- and whose meetings are all decided
      module _ (leads : List Bool) (marks : Leads ps (length ps) leads) (all_decided : (s t : ℕ) → ¬ OpenMeeting ss leads s t) where
        complete : Complete lanes b
        complete = record { home = reached; on_lanes = on_lanes; decided = meant.decided sheet lanes legs known leads marks all_decided }

        -- the lowest stops that are set head on
        opposed_lowest : (s t : ℕ) → LowestOpposed ss legs leads ps (length ps) (Some (s, t)) → LowestPair (Opposed lanes b) s t
        opposed_lowest s t (small, small_too, here, lowest) =
            let at = meant.opposed_at sheet lanes legs known leads marks in (
              meant.opposed sheet lanes legs known leads marks s t here,
              λ r q h o. let n = lowest r q (at r q o) in omega (arith, n.0),
              λ q h o. let n = lowest s q (at s q o) in let m = n.1 refl in omega arith,
            )

        opposed_excludes : (s t : ℕ) → Opposed lanes b s t → ¬ Possible lanes gap b
        opposed_excludes s t o (α, good) = (decide_in lanes gap b positive orderly).opposed_none s t o α good

        module _ (none_set : LowestOpposed ss legs leads ps (length ps) None) where
          none_opposed : (s t : ℕ) → ¬ Opposed lanes b s t
          none_opposed s t o = none_set s t (meant.opposed_at sheet lanes legs known leads marks s t o)

          -- the lags worked out
          earliest : (α : ℕ → ℕ) → Least Listed α → Earliest lanes gap b α
          earliest α listed =
              let D = decide_in lanes gap b positive orderly in
              let found = least_over (Lag lanes gap b) Listed (meant.lag_is sheet lanes legs known gap) (meant.is_lag sheet lanes legs known gap) α listed in
              record {
                good = D.kept_good complete none_opposed α (from_zero α found) found.0;
                least = λ β good s h. found.1 β (D.good_keeps β good) s;
              }

          ringed : (l : List ℕ) → RingOf Listed l → RingOf (Lag lanes gap b) l
          ringed l ring = ring_over Listed (Lag lanes gap b) (meant.is_lag sheet lanes legs known gap) l ring

          impossible : (l : List ℕ) → RingOf (Lag lanes gap b) l → ¬ Possible lanes gap b
          impossible l ring (α, good) = (decide_in lanes gap b positive orderly).ring_none l ring α good

  abbrev y : Setting
  y = record { lanes = lanes; gap = gap; largest = largest }

  pub found_away : (c : ℕ) → Lowest (ShortOfGoal (carriers_of sheet)) c → Finds y b (not_at_goal c)
  found_away c l = lowest_as (ShortOfGoal (carriers_of sheet)) (Away b) (meant.away sheet) (meant.short sheet) c l

  -- what is found of routes that are all home
  module _ (p : Pages) (home : (c : ℕ) → ¬ ShortOfGoal (carriers_of sheet) c) where
    cut_off : (t : ℕ) → NoLaneTo lanes ss t → Finds y b (no_lane t)
    cut_off t n = (
      all_home home,
      (
        meant.cut_off sheet lanes t n.p n.within n.comes_from n.none,
        λ m h o. let q = meant.cut_at sheet lanes m o in n.lower m q.0 h q.2 q.3,
      ),
    )

    unordered : (s t : ℕ) → TurnedDown lanes gap (max 36000 largest) ss ps p (Undecided s t) → Finds y b (undecided s t)
    unordered s t d =
        let r = d.refused in (
          all_home home,
          all_on_lanes home d.legs d.known,
          lowest_pair_as (OpenMeeting ss r.leads) (UndecidedAt b)
              (meant.undecided sheet lanes d.legs d.known r.leads r.marks)
              (meant.open_meeting sheet lanes d.legs d.known r.leads r.marks) s t r.refused,
        )

    opposing : (s t : ℕ) → TurnedDown lanes gap (max 36000 largest) ss ps p (HeadOn s t) → Finds y b (head_on s t)
    opposing s t d =
        let r = d.refused in
        let low = opposed_lowest home d.legs d.known r.leads r.marks r.refused.0 s t r.refused.1 in (
          complete home d.legs d.known r.leads r.marks r.refused.0,
          low,
          opposed_excludes home d.legs d.known r.leads r.marks r.refused.0 s t low.0,
        )

    passing : (n : ℕ) (w : WorkedOut lanes gap (max 36000 largest) ss ps p (Ok n)) → Finds y b (passes w.settles.1.times)
    passing n w =
        let c = w.clear in
        let t = w.settles.1 in (
          complete home w.legs w.known c.leads c.marks c.decided,
          record {
            one_each = t.one_each ∙ sym stops_long;
            earliest = earliest home w.legs w.known c.leads c.marks c.decided c.none_opposed (λ s. slice_index t.times s) t.least;
            ceiling = λ s. rw stops_long (t.low s);
          },
        )

    circular : (k : ℕ) (w : WorkedOut lanes gap (max 36000 largest) ss ps p (Err (Ring k))) → Finds y b (in_a_ring w.settles.stops)
    circular k w =
        let c = w.clear in
        let r = w.settles in
        let closed = ringed home w.legs w.known c.leads c.marks c.decided c.none_opposed r.stops r.ring in (
          complete home w.legs w.known c.leads c.marks c.decided,
          none_opposed home w.legs w.known c.leads c.marks c.decided c.none_opposed,
          closed,
          impossible home w.legs w.known c.leads c.marks c.decided c.none_opposed r.stops closed,
        )

  -- what is answered
  module _ (p : Pages) where
    abbrev pub judging : Result ℕ JudgeRefusal → Judging
    judging r = record { lanes = lanes; gap = gap; largest = largest; pages = p; answer = r }

    abbrev Fits : Type 0
    Fits = (length ss ≤ length p.timetable) × (length ss ≤ length p.ring)

    -- the pages have a number for each stop just when they have one for each record of a stop
    long : Fits → length b.stops ≤ room_of p
    long f = omega (arith, stops_long, f.0, f.1)

    pub judged_short : ¬ Fits → Untouched p → Concluded (judging (Err PageTooShort)) b
    judged_short no_fit u = record {
      found = None;
      concludes = grind (arith, stops_long);
      shown = (refl, u);
    }

    module _ (f : Fits) where
      -- a finding that the answer and the pages show
      conclude : (r : Result ℕ JudgeRefusal) (finding : Finding) → Finds y b finding → Shows p r (Some finding) → Concluded (judging r) b
      conclude r finding finds shown = record { found = Some finding; concludes = (long f, finds); shown = shown }

      pub judged_away : (c : ℕ) → Lowest (ShortOfGoal (carriers_of sheet)) c → Untouched p → Concluded (judging (Err (NotAtGoal c))) b
      judged_away c l u = conclude (Err (NotAtGoal c)) (not_at_goal c) (found_away c l) (refl, u)

      pub judged_routed : ((c : ℕ) → ¬ ShortOfGoal (carriers_of sheet) c) → (r : Result ℕ JudgeRefusal) → Routed lanes gap (max 36000 largest) ss ps p r → Concluded (judging r) b
      judged_routed home (Ok n) w =
          let t = w.settles.1 in
          conclude (Ok n) (passes t.times) (passing p home n w) (ap Ok (w.settles.0 ∙ sym t.one_each), t.written, t.ring_stands)
      judged_routed home (Err PageTooShort) w = absurd w
      judged_routed home (Err (NotAtGoal c)) w = absurd w
      judged_routed home (Err (NoLane t)) w = conclude (Err (NoLane t)) (no_lane t) (cut_off p home t w.0) (refl, w.1)
      judged_routed home (Err (Undecided s t)) w = conclude (Err (Undecided s t)) (undecided s t) (unordered p home s t w) (refl, w.untouched)
      judged_routed home (Err (HeadOn s t)) w = conclude (Err (HeadOn s t)) (head_on s t) (opposing p home s t w) (refl, w.untouched)
      judged_routed home (Err (Ring k)) w =
          let r = w.settles in
          conclude (Err (Ring k)) (in_a_ring r.stops) (circular p home k w) (ap (λ n. Err (Ring n)) (sym r.long), r.written, r.timetable_stands)

-- a finding, beside a complete sheet: it passes, and then some plan is good, or no plan is
passes_or_not : (j : Judging) (b : Book) → Complete j.lanes b → (f : Finding) → Finds (setting_in j) b f → Shows j.pages j.answer (Some f) → ((is_ok j.answer ≡ true) × Possible j.lanes j.gap b) ⊎ ((is_ok j.answer ≡ false) × Impossible (setting_in j) b)
passes_or_not j b c (not_at_goal k) f shown = let a = f.0 in absurd (a.not_reached (c.home k a.goal a.its_goal))
passes_or_not j b c (no_lane t) f shown = let o = f.1.0 in let d = c.on_lanes o.c o.s o.u t o.v o.step in cc (d.1, o.no_lane)
passes_or_not j b c (undecided s t) f shown = let o = f.2.0 in absurd (o.nobody_first (c.decided o.c o.e s t o.u o.other o.here o.there))
passes_or_not j b c (head_on s t) f shown = search rules
passes_or_not j b c (in_a_ring stops) f shown = search rules
passes_or_not j b c (passes times) f shown = search rules

-- an answer that is so passes exactly the sheets that some plan keeps
pub exactly : (j : Judging) (b : Book) → Concluded j b → PassesExactly j b
exactly j b judged = go judged.found judged.concludes judged.shown
  where
    go : (found : Option Finding) → Concludes (setting_in j) b (room_of j.pages) found → Shows j.pages j.answer found → PassesExactly j b
    go None short shown = λ fit c. absurd (omega (arith, fit.0, fit.1))
    go (Some f) (l, finds) shown = λ _ c.
        grind (arith, passes_or_not j b c f finds shown)
