-- A good plan keeps every lag, and a plan that keeps every lag is good unless two stops are set head on.
use Rattle.std.proofs.Common.{ℕ, ◌+◌, ◌-◌, ◌<◌, ◌≤◌, min, pos, ⊎_elim, arith}
use Rattle.std.proofs.lemmas.Int.{ints}
use Rattle.lags.specs.Ways.{Solution}
use Rattle.lags.proofs.Ways.{ring_excludes}
use Rattle.sheet.specs.Book.{Book, Visits, Stands}
use Rattle.plan.specs.Plans.{Lanes, Gaps, Leg, Timed, Keeps, Conflict, at_one_place, following, head_on, Good, Complete, Opposed}
use Rattle.plan.specs.Lags.{Lag, travel, wait}
use Rattle.plan.specs.Theorems.{Orderly, Positive, FromZero, LagsDecideIn}

module _ (lanes : Lanes) (gap : Gaps) (b : Book) (positive : Positive lanes) (orderly : Orderly lanes b) where
  -- a good plan keeps every lag
  keeps_lags : (α : ℕ → ℕ) → Good lanes gap b α → Solution (Lag lanes gap b) α
  keeps_lags α good s t w (travel {c = c} {u = u} {v = v} {d = d} leg) = let timed = good.timed.travels c s u t v d leg in omega (arith, ints)
  keeps_lags α good s t w (wait k {first = first} {second = second} {s = o} {u = u} {v = v} {d = d} stands leg visits) =
      let before : α s - d < α t = good.keeps k first second u o s v d t stands leg visits in
      let timed : α o + d ≤ α s = good.timed.travels first o u s v d leg in
      let late : ¬ α t ≤ α s - d + gap u v d = λ soon. good.free (following first second o u s v d t (orderly.differ k first second u stands) leg visits before soon) in
      omega (arith, ints)

  -- where two stops are set head on, no plan is good
  no_plan : (s t : ℕ) → Opposed lanes b s t → (α : ℕ → ℕ) → ¬ Good lanes gap b α
  no_plan s t o α good =
      let c = o.c in
      let e = o.e in
      let u = o.u in
      let v = o.v in
      let (q, d, leg) = o.s_goes in
      let (r, d', back) = o.t_goes in
      let (k, c_first) = o.first_at_u in
      let (l, e_first) = o.first_at_v in
      let c_leaves : α q - d < α r = good.keeps k c e u s q v d r c_first leg back.next.there in
      let e_leaves : α r - d' < α q = good.keeps l e c v t r u d' q e_first back leg.next.there in
      let long : 1 ≤ d = positive u v d leg.lane in
      let long' : 1 ≤ d' = positive v u d' back.lane in
      let way : α s + d ≤ α q = good.timed.travels c s u q v d leg in
      let yaw : α t + d' ≤ α r = good.timed.travels e t v r u d' back in
      good.free (head_on c e s u q v d t r d' (min (α q) (α r)) (orderly.differ k c e u c_first) leg back (omega arith) (omega arith) (omega arith) (omega arith))

  module _ (α : ℕ → ℕ) (starts : FromZero b α) (kept : Solution (Lag lanes gap b) α) where
    timed : Timed lanes b α
    timed = record {
      starts = starts;
      travels = λ c s u t v d leg. let lag = kept s t (pos d) (travel leg) in omega (arith, ints);
    }

    -- who goes second arrives later than the gap after the first's departure
    clear : (k first second s u t v d r : ℕ) → Stands b k first second u → Leg lanes b first s u t v d → Visits b r second u → α t - d + gap u v d < α r
    clear k first second s u t v d r stands leg visits =
        let lag = kept t r _ (wait k stands leg visits) in
        let on = timed.travels first s u t v d leg in
        omega (arith, ints)

    keeps : Keeps lanes b α
    keeps k first second u s t v d r stands leg visits = let far = clear k first second s u t v d r stands leg visits in omega arith

    module _ (complete : Complete lanes b) (not_opposed : (s t : ℕ) → ¬ Opposed lanes b s t) where
      -- who goes first has left before the second arrives
      passes : (k c e s r u : ℕ) → Stands b k c e u → Visits b s c u → Visits b r e u → (t v d : ℕ) × (Leg lanes b c s u t v d × ((α s ≤ α t - d) × (α t - d < α r)))
      passes k c e s r u stands here there =
          let on = orderly.goes_on k c e u s stands here in
          let leg = on.3 in
          let far = clear k c e s u on.0 on.1 on.2 r stands leg there in
          let way = timed.travels c s u on.0 on.1 on.2 leg in
          (on.0, on.1, on.2, (leg, (omega arith, omega arith)))

      gone : (k c e s r u tick : ℕ) → Stands b k c e u → Visits b s c u → Visits b r e u → ((t v d : ℕ) → Leg lanes b c s u t v d → tick ≤ α t - d) → ¬ α r ≤ tick
      gone k c e s r u tick stands here there stays late =
          let p = passes k c e s r u stands here there in
          let till = stays p.0 p.1 p.2 p.3.0 in
          omega arith

      free : ¬ Conflict lanes gap b α
      free (at_one_place c e s r u tick other here there) =
          let k = complete.decided c e s r u other here.here there.here in
          ⊎_elim
          (λ first. gone k.0 c e s r u tick first here.here there.here here.not_gone there.arrived)
          (λ first. gone k.0 e c r s u tick first there.here here.here there.not_gone here.arrived)
          k.1
      free (following c e s u t v d r other leg there after soon) =
          let k = complete.decided c e s r u other leg.next.here there in
          ⊎_elim
          (λ first. let far = clear k.0 c e s u t v d r first leg there in omega arith)
          (λ first. let p = passes k.0 e c r s u first there leg.next.here in
          let way = timed.travels c s u t v d leg in
          let q = timed.travels e r u p.0 p.1 p.2 p.3.0 in
          omega arith)
          k.1
      free (head_on c e s u t v d r q d' tick other leg back a1 a2 b1 b2) =
          let at_u = complete.decided c e s q u other leg.next.here back.next.there in
          let at_v = complete.decided c e t r v other leg.next.there back.next.here in
          let way = timed.travels c s u t v d leg in
          let yaw = timed.travels e r v q u d' back in
          ⊎_elim
          (λ c_first. ⊎_elim
          (λ first. let p = passes at_v.0 c e t r v first leg.next.there back.next.here in omega arith)
          (λ e_first. not_opposed s r (record {
            c = c;
            e = e;
            u = u;
            v = v;
            s_goes = (t, d, leg);
            t_goes = (q, d', back);
            first_at_u = (at_u.0, c_first);
            first_at_v = (at_v.0, e_first);
          }))
          at_v.1)
          (λ first. let p = passes at_u.0 e c q s u first back.next.there leg.next.here in omega arith)
          at_u.1

      good : Good lanes gap b α
      good = record { timed = timed; keeps = keeps; free = free }

  pub decide_in : LagsDecideIn lanes gap b
  decide_in = record {
    good_keeps = keeps_lags;
    kept_good = λ complete clear α zero kept. good α zero kept complete clear;
    opposed_none = no_plan;
    ring_none = λ l ring α g. ring_excludes (Lag lanes gap b) α (keeps_lags α g) l ring;
  }
