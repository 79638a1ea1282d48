-- What judging's tables mean in the words of the book.
use Rattle.std.proofs.Common.{◌≡◌, ℕ, ◌<◌, Bool, true, false, ◌≢◌, List, length, slice_index_or, ℤ, pos, Some, None, Option, sym, refl, ap, ◌∙◌, inl, inr, ⊎_elim, arith}
use Rattle.std.proofs.lemmas.Option.{slice_get-get_or}
use Rattle.std.proofs.lemmas.Bool.{cases_order, both_ways, cases_Bool}
use Rattle.std.proofs.iter.runs.Lists.{slice_get_within}
use Rattle.sheet.specs.declared.records.Carrier.{Carrier}
use Rattle.sheet.specs.declared.records.Precedence.{Precedence}
use Rattle.sheet.specs.declared.records.Stop.{Stop}
use Rattle.sheet.specs.declared.sheets.Sheet.{Sheet}
use Rattle.sheet.specs.Book.{Book, Visits, Stands, Decided, Next}
use Rattle.sheet.specs.Records.{no_carrier, no_stop, no_precedence}
use Rattle.sheet.specs.Sheets.{carriers_of, stops_of, precedences_of, sheet_book}
use Rattle.sheet.proofs.Facts as facts
use Rattle.plan.specs.Lags.{Lag, travel, wait}
use Rattle.plan.specs.Plans.{Lanes, Gaps, Opposed, Leg as LegOf}
use Rattle.judge.specs.declared.legs.Leg.{Leg}
use Rattle.judge.specs.Judged.{Away, CutOff, UndecidedAt}
use Rattle.judge.specs.Legs.{Legs, Previous, lane_between, next_after, ShortOfGoal, time_to}
use Rattle.judge.specs.Meetings.{Leads, leads_at, OpenMeeting, OpposedBelow}
use Rattle.judge.specs.Waits.{Between}

module _ (sheet : Sheet) where
  abbrev b : Book
  b = sheet_book sheet

  abbrev cs : List Carrier
  cs = carriers_of sheet

  abbrev ss : List Stop
  ss = stops_of sheet

  abbrev ps : List Precedence
  ps = precedences_of sheet

  abbrev carrier_at : ℕ → ℕ
  carrier_at t = (slice_index_or ss t no_stop).carrier

  abbrev place_at : ℕ → ℕ
  place_at t = (slice_index_or ss t no_stop).place

  abbrev the : ℕ → Precedence
  the k = slice_index_or ps k no_precedence

  -- stops
  visits : (t : ℕ) → t < length ss → Visits b t (carrier_at t) (place_at t)
  visits t h = facts.visits_of sheet t (slice_index_or ss t no_stop) (slice_get-get_or ss t no_stop h)

  pub visited : (t c u : ℕ) → Visits b t c u → (t < length ss) × (carrier_at t ≡ c) × (place_at t ≡ u)
  visited t c u v =
      let h = facts.visits_within sheet t c u v in
      let o = facts.one_visit sheet t (carrier_at t) (place_at t) c u (visits t h) v in
      (h, o.0, o.1)

  few : (t : ℕ) → t < length ss → carrier_at t < 64
  few t h = let l = sheet.carried t h in let m = facts.few_carriers sheet in omega arith

  -- precedences
  stands : (k : ℕ) → k < length ps → Stands b k (the k).first (the k).second (the k).place
  stands k h = facts.stands_of sheet k (the k) (slice_get-get_or ps k no_precedence h)

  pub record Found (k first second u : ℕ) : Type 0 where
    pub within : k < length ps
    pub its_first : (the k).first ≡ first
    pub its_second : (the k).second ≡ second
    pub its_place : (the k).place ≡ u

  found : (k first second u : ℕ) → Stands b k first second u → Found k first second u
  found k first second u p =
      let f = facts.stands_from sheet k first second u p in
      let h = slice_get_within ps k f.0 f.1 in
      let same : the k ≡ f.0 = let x = slice_get-get_or ps k no_precedence h in let y = f.1 in (cc) in
      record { within = h; its_first = rw same f.2; its_second = rw same f.3; its_place = rw same f.4 }

  first_visits : (k : ℕ) → k < length ps → Visits b (the k).first_stop (the k).first (the k).place
  first_visits k h = facts.first_visits sheet k (the k) (slice_get-get_or ps k no_precedence h)

  second_visits : (k : ℕ) → k < length ps → Visits b (the k).second_stop (the k).second (the k).place
  second_visits k h = facts.second_visits sheet k (the k) (slice_get-get_or ps k no_precedence h)

  -- the stop that a standing precedence's record keeps is the carrier's stop at the place
  first_is : (k first second u r : ℕ) → Stands b k first second u → Visits b r first u → (the k).first_stop ≡ r
  first_is k first second u r p v =
      let f = found k first second u p in
      facts.visits_once sheet first (the k).first_stop r u (rw (f.its_first, f.its_place) at (first_visits k f.within)) v

  second_is : (k first second u r : ℕ) → Stands b k first second u → Visits b r second u → (the k).second_stop ≡ r
  second_is k first second u r p v =
      let f = found k first second u p in
      facts.visits_once sheet second (the k).second_stop r u (rw (f.its_second, f.its_place) at (second_visits k f.within)) v

  -- carriers that are not home
  pub away : (c : ℕ) → ShortOfGoal cs c → Away b c
  away c (h, other) =
      let x = slice_index_or cs c no_carrier in
      let at = slice_get-get_or cs c no_carrier h in
      record {
        goal = x.goal;
        its_goal = (x.start, facts.goes_of sheet c x at);
        not_reached = λ (t, v). facts.no_stop_at_goal sheet c x at other t v;
      }

  pub short : (c : ℕ) → Away b c → ShortOfGoal cs c
  short c a =
      let f = facts.goes_from sheet c a.its_goal.0 a.goal a.its_goal.1 in
      let h = slice_get_within cs c f.0 f.1 in
      let same : slice_index_or cs c no_carrier ≡ f.0 = let x = slice_get-get_or cs c no_carrier h in let y = f.1 in (cc) in (
        h,
        λ e.
            a.not_reached (f.0.last_stop, rw f.3 at (facts.stops_at_goal sheet c f.0 f.1 (rw same at e))),
      )

  module _ (lanes : Lanes) where
    -- steps
    next_of : (t p : ℕ) → t < length ss → Previous lanes ss t p → Next b (carrier_at t) p (place_at p) t (place_at t)
    next_of t p h q =
        let y = facts.previous_next sheet t p (slice_index_or ss t no_stop) (slice_get-get_or ss t no_stop h) q in
        let v = visited p (carrier_at t) y.0.place y.2.here in
        rw v.2 y.2

    pub previous : (c p u t v : ℕ) → Next b c p u t v → Previous lanes ss t p
    previous c p u t v on =
        let h = facts.visits_within sheet t c v on.there in
        facts.next_previous sheet c p u t v (slice_index_or ss t no_stop) (slice_get-get_or ss t no_stop h) on

    -- a stop is followed by one stop
    one_after : (c p u t v r w : ℕ) → Next b c p u t v → Next b c p u r w → t ≡ r
    one_after c p u t v r w a n =
        grind (arith, n.none_between t v a.later, a.there, a.none_between r w n.later, n.there)

    -- stops without a lane to them
    pub cut_off : (t p : ℕ) → t < length ss → Previous lanes ss t p → lane_between lanes ss p t ≡ None → CutOff lanes b t
    cut_off t p h q none = record { c = carrier_at t; s = p; u = place_at p; v = place_at t; step = next_of t p h q; no_lane = none }

    pub cut_at : (t : ℕ) → CutOff lanes b t → (p : ℕ) × (t < length ss) × Previous lanes ss t p × (lane_between lanes ss p t ≡ None)
    cut_at t o =
        let here = visited o.s o.c o.u o.step.here in
        let there = visited t o.c o.v o.step.there in
        let none : lane_between lanes ss o.s t ≡ None = cc (o.no_lane, here.2, there.2) in
        (o.s, there.0, previous o.c o.s o.u t o.v o.step, none)

    module _ (legs : List Leg) (known : Legs lanes ss (length ss) legs) where
      -- legs
      leg_of : (t p : ℕ) → t < length ss → Previous lanes ss t p → LegOf lanes b (carrier_at t) p (place_at p) t (place_at t) (time_to legs t)
      leg_of t p h q = record { next = next_of t p h q; lane = known.timed t p h q }

      pub record Legged (c p u t v d : ℕ) : Type 0 where
        pub within : t < length ss
        pub step : Previous lanes ss t p
        pub from_place : place_at p ≡ u
        pub to_place : place_at t ≡ v
        pub takes : time_to legs t ≡ d

      legged : (c p u t v d : ℕ) → LegOf lanes b c p u t v d → Legged c p u t v d
      legged c p u t v d leg =
          let here = visited p c u leg.next.here in
          let there = visited t c v leg.next.there in
          let q = previous c p u t v leg.next in
          let x = known.timed t p there.0 q in
          let y = leg.lane in
          let f = here.2 in
          let g = there.2 in
          let same : Some (time_to legs t) ≡ Some d = (cc) in
          record { within = there.0; step = q; from_place = f; to_place = g; takes = (cc) }

      -- the next stop
      next_in : (t p : ℕ) → t < length ss → Previous lanes ss t p → next_after legs p ≡ Some t
      next_in t p h q = go (next_after legs p) refl
        where
          go : (o : Option ℕ) → next_after legs p ≡ o → next_after legs p ≡ Some t
          go None e = absurd (known.some_next t p h q e)
          go (Some r) e =
              let l = known.next p r e in
              let on = next_of t p h q in
              let off = next_of r p l.0 l.1 in
              let c = (facts.one_visit sheet p (carrier_at r) (place_at p) (carrier_at t) (place_at p) off.here on.here).0 in
              e ∙ ap Some (one_after (carrier_at t) p (place_at p) r (place_at r) t (place_at t) (rw c at off) on)

      -- lags
      leg_from : (s t : ℕ) → next_after legs s ≡ Some t → (c u : ℕ) → Visits b s c u → LegOf lanes b c s u t (place_at t) (time_to legs t)
      leg_from s t e c u v =
          let l = known.next s t e in
          let leg = leg_of t s l.0 l.1 in
          let o = facts.one_visit sheet s (carrier_at t) (place_at s) c u leg.next.here v in
          rw (o.0, o.1) at leg

      module _ (gap : Gaps) where
        pub is_lag : (s t : ℕ) (w : ℤ) → Between gap ss legs ps s t w → Lag lanes gap b s t w
        is_lag s t w l = ⊎_elim
            (λ v. rw v.weighs (travel (leg_of t s v.within v.step)))
            (λ v.
            let k = v.0 in
            let wt = v.2 in
            let visit = first_visits k v.1 in
            let leg = leg_from (the k).first_stop s wt.from_next (the k).first (the k).place visit in
            rw (wt.weighs, wt.to_second) (wait k (stands k v.1) leg (second_visits k v.1)))
            l

        pub lag_is : (s t : ℕ) (w : ℤ) → Lag lanes gap b s t w → Between gap ss legs ps s t w
        lag_is s t w (travel {c = c} {u = u} {v = v} {d = d} leg) =
            let l = legged c s u t v d leg in
            inl (record { within = l.within; step = l.step; weighs = ap pos (sym l.takes) })
        lag_is t r w (wait k {first = first} {second = second} {s = s} {u = u} {v = v} {d = d} p leg visit) =
            let f = found k first second u p in
            let l = legged first s u t v d leg in
            let i = first_is k first second u s p leg.next.here in
            let j = second_is k first second u r p visit in
            inr (
              k,
              f.within,
              record {
                from_next = ap (λ n. next_after legs n) i ∙ next_in t s l.within l.step;
                to_second = sym j;
                weighs = let x = f.its_place in let y = l.to_place in let z = l.takes in (cc);
              },
            )

      module _ (leads : List Bool) (marks : Leads ps (length ps) leads) where
        -- who goes first
        first_of : (r c : ℕ) → r < length ss → c < 64 → leads_at leads r c ≡ true → (k : ℕ) × Stands b k (carrier_at r) c (place_at r)
        first_of r c h small e =
            let m = marks.meant r c small e in
            let k = m.0 in
            let v = rw m.2 at (first_visits k m.1) in
            let o = facts.one_visit sheet r (the k).first (the k).place (carrier_at r) (place_at r) v (visits r h) in
            (k, rw (m.3, o.0, o.1) at (stands k m.1))

        leads_of : (k first second u r : ℕ) → Stands b k first second u → Visits b r first u → leads_at leads r second ≡ true
        leads_of k first second u r p v =
            let f = found k first second u p in
            let i = first_is k first second u r p v in
            let m = marks.marked k f.within in
            rw (i, f.its_second) at m

        -- meetings that are not decided
        pub undecided : (s t : ℕ) → OpenMeeting ss leads s t → UndecidedAt b s t
        undecided s t o =
            let h = o.within in
            let l = o.later in
            let s_in : s < length ss = omega arith in
            let here = visits s s_in in
            let there = rw o.meet.0 at (visits t h) in
            record {
              c = carrier_at s;
              e = carrier_at t;
              u = place_at s;
              other = λ e. o.meet.1 (sym e);
              here = here;
              there = there;
              later = l;
              nobody_first = λ d. ⊎_elim
                  (λ p. both_ways (leads_at leads s (carrier_at t)) o.not_first (leads_of d.0 (carrier_at s) (carrier_at t) (place_at s) s p here))
                  (λ p. both_ways (leads_at leads t (carrier_at s)) o.not_second (leads_of d.0 (carrier_at t) (carrier_at s) (place_at s) t p there))
                  d.1;
            }

        pub open_meeting : (s t : ℕ) → UndecidedAt b s t → OpenMeeting ss leads s t
        open_meeting s t o =
            let here = visited s o.c o.u o.here in
            let there = visited t o.e o.u o.there in
            let carrier_s = here.1 in
            let carrier_t = there.1 in
            let place_s = here.2 in
            let place_t = there.2 in
            record {
              later = o.later;
              within = there.0;
              meet = (place_t ∙ sym place_s, λ e. o.other (sym carrier_s ∙ (sym e ∙ carrier_t)));
              not_first = ⊎_elim
                  (λ e. let f = first_of s (carrier_at t) here.0 (few t there.0) e in
                  absurd (o.nobody_first (f.0, inl (cc f.1))))
                  (λ e. e)
                  (cases_Bool (leads_at leads s (carrier_at t)));
              not_second = ⊎_elim
                  (λ e. let f = first_of t (carrier_at s) there.0 (few s here.0) e in
                  absurd (o.nobody_first (f.0, inr (cc f.1))))
                  (λ e. e)
                  (cases_Bool (leads_at leads t (carrier_at s)));
            }

        -- every meeting decided
        pub decided : ((s t : ℕ) → ¬ OpenMeeting ss leads s t) → (c e s r u : ℕ) → c ≢ e → Visits b s c u → Visits b r e u → Decided b c e u
        decided none c e s r u other here there =
            let at_s = visited s c u here in
            let at_r = visited r e u there in
            ⊎_elim
            (λ t. let f = first_of s e at_s.0 (rw at_r.1 at (few r at_r.0)) t in (f.0, inl (cc (f.1, at_s.1, at_s.2))))
            (λ no_first. ⊎_elim
            (λ t. let f = first_of r c at_r.0 (rw at_s.1 at (few s at_s.0)) t in (f.0, inr (cc (f.1, at_r.1, at_r.2))))
            (λ no_second. absurd (clash s r at_s at_r no_first no_second))
            (cases_Bool (leads_at leads r c)))
            (cases_Bool (leads_at leads s e))
          where
            clash : (s r : ℕ) → (s < length ss) × (carrier_at s ≡ c) × (place_at s ≡ u) → (r < length ss) × (carrier_at r ≡ e) × (place_at r ≡ u) → leads_at leads s e ≡ false → leads_at leads r c ≡ false → ⊥
            clash s r at_s at_r no_first no_second =
                let f : leads_at leads s (carrier_at r) ≡ false = rw at_r.1 no_first in
                let g : leads_at leads r (carrier_at s) ≡ false = rw at_s.1 no_second in
                let place : place_at r ≡ place_at s = cc (at_r.2, at_s.2) in
                let apart : carrier_at r ≢ carrier_at s = λ q. other (sym at_s.1 ∙ (sym q ∙ at_r.1)) in
                ⊎_elim
                (λ q. apart (ap carrier_at (sym q)))
                (⊎_elim
                (λ (l : s < r). none s r (record { later = l; within = at_r.0; meet = (place, apart); not_first = f; not_second = g }))
                (λ (l : r < s). none r s (record { later = l; within = at_s.0; meet = (sym place, λ q. apart (sym q)); not_first = g; not_second = f })))
                (cases_order s r)

        -- stops that are set head on
        pub opposed : (s t : ℕ) → OpposedBelow ss legs leads ps (length ps) s t → Opposed lanes b s t
        opposed s t (k, h, o) =
            let q = (the k).second_stop in
            let e = (the k).first in
            let c = (the k).second in
            let v = (the k).place in
            let at_t : Visits b t e v = rw o.from_first at (first_visits k h) in
            let at_q = second_visits k h in
            let q_in = visited q c v at_q in
            let coming = leg_of q s q_in.0 o.from_second in
            let s_leg : LegOf lanes b c s (place_at s) q v (time_to legs q) = rw (q_in.1, q_in.2) at coming in
            let going = leg_from t o.target o.goes e v at_t in
            let t_leg : LegOf lanes b e t v o.target (place_at s) (time_to legs o.target) = rw o.arrives at going in
            let s_in = visited s c (place_at s) s_leg.next.here in
            let e_few : e < 64 = let t_in = visited t e v at_t in rw t_in.1 at (few t t_in.0) in
            let f = first_of s e s_in.0 e_few o.first_there in
            record {
              c = c;
              e = e;
              u = place_at s;
              v = v;
              s_goes = (q, time_to legs q, s_leg);
              t_goes = (o.target, time_to legs o.target, t_leg);
              first_at_u = (f.0, cc (f.1, s_in.1));
              first_at_v = (k, stands k h);
            }

        pub opposed_at : (s t : ℕ) → Opposed lanes b s t → OpposedBelow ss legs leads ps (length ps) s t
        opposed_at s t o =
            let k = o.first_at_v.0 in
            let at_v = o.first_at_v.1 in
            let f = found k o.e o.c o.v at_v in
            let s_leg = o.s_goes.2 in
            let t_leg = o.t_goes.2 in
            let s_in = legged o.c s o.u o.s_goes.0 o.v o.s_goes.1 s_leg in
            let t_in = legged o.e t o.v o.t_goes.0 o.u o.t_goes.1 t_leg in
            let i = first_is k o.e o.c o.v t at_v t_leg.next.here in
            let j = second_is k o.e o.c o.v o.s_goes.0 at_v s_leg.next.there in
            let m = leads_of o.first_at_u.0 o.c o.e o.u s o.first_at_u.1 s_leg.next.here in (
              k,
              f.within,
              record {
                from_first = i;
                from_second = rw j s_in.step;
                target = o.t_goes.0;
                goes = next_in o.t_goes.0 t t_in.within t_in.step;
                arrives = cc (t_in.to_place, s_in.from_place);
                first_there = rw f.its_first m;
              },
            )
