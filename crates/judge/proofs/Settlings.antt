-- From the lags that were gathered to what is written on the pages.
use Rattle.std.proofs.Common.{◌≡◌, ℕ, ◌-◌, ◌*◌, ◌^◌, ◌<◌, ◌≤◌, max, List, ◌++◌, length, slice_index_or, slice_index, take, drop, ℤ, pos, ◌≤ℤ◌, All, sym, ap, ◌∙◌, subst, inl, inr, arith}
use Rattle.std.proofs.lemmas.List.{length-take-le, take-append-drop}
use Rattle.std.proofs.lemmas.List.Elements.{Contains-get_or}
use Rattle.std.proofs.lemmas.Int.{ints}
use Rattle.sheet.specs.declared.records.Precedence.{Precedence}
use Rattle.sheet.specs.declared.records.Stop.{Stop}
use Rattle.sheet.specs.Records.{no_precedence, no_stop}
use Rattle.lags.specs.declared.Lag.{Lag}
use Rattle.lags.specs.Solved.{Listed, Allowed, Fit, Earliest, Looped}
use Rattle.lags.proofs.Ways.{least_over, ring_over}
use Rattle.judge.specs.Settling.{Pages, TimesWritten, RingWritten}
use Rattle.judge.specs.declared.legs.Leg.{Leg}
use Rattle.judge.specs.Legs.{time_to}
use Rattle.judge.specs.Waits.{Lists, LagOf, Ready, Between}

module _ {gap : ℕ → ℕ → ℕ → ℕ} {largest : ℕ} (small : largest ≤ 100000) (bounded : (from to time : ℕ) → 1 ≤ time → time ≤ 36000 → gap from to time ≤ largest)
    {stops : List Stop} {legs : List Leg} {ps : List Precedence}
    (ready : Ready stops ps legs) {items : List Lag} (gathered : Lists (LagOf gap stops legs ps (length stops) (length ps)) items) {lags : List Lag} (same : lags ≡ items) where
  abbrev IsLag : Lag → Type 0
  IsLag g = LagOf gap stops legs ps (length stops) (length ps) g

  listed : Lists IsLag lags
  listed = rw same gathered

  -- what holds of every such lag, holds of all that were gathered
  all : {P : Lag → Type 0} → ((g : Lag) → IsLag g → P g) → All P lags
  all each k d h = each (slice_index_or lags k d) ((listed (slice_index_or lags k d)).0 (Contains-get_or lags k d h))

  allowed_one : (g : Lag) → IsLag g → Allowed (length stops) g
  allowed_one g (inl t) = grind (arith, ints, ready.consistent.linked g.to g.from t.within t.step, ready.stepped g.to g.from t.within t.step, t.within, t.weighs)
  allowed_one g (inr (k, within, wait)) =
      let next = ready.inside _ _ wait.from_next in
      let time = ready.timely _ _ wait.from_next in
      let most = bounded (slice_index_or ps k no_precedence).place (slice_index_or stops g.from no_stop).place (time_to legs g.from) time.0 time.1 in
      grind (arith, ints, ready.one_each, ready.consistent.lawful k within, wait.to_second, wait.weighs)

  pub fit : (n room : ℕ) → n ≡ length stops → length lags ≤ 3072 → length stops ≤ room → Fit lags n room
  fit n room e short wide = rw e (record {
    few = ready.consistent.few;
    short = short;
    allowed = all allowed_one;
    wide = wide;
  })

  under_one : (g : Lag) → IsLag g → g.weight ≤ℤ pos (max 36000 largest)
  under_one g (inl t) = let time = ready.stepped g.to g.from t.within t.step in omega (arith, ints, t.weighs)
  under_one g (inr (k, within, wait)) =
      let time = ready.timely _ _ wait.from_next in
      let most = bounded (slice_index_or ps k no_precedence).place (slice_index_or stops g.from no_stop).place (time_to legs g.from) time.0 time.1 in
      omega (arith, ints, wait.weighs)

  -- the listed lags are those of the tables
  from_listed : (s t : ℕ) (w : ℤ) → Listed lags s t w → Between gap stops legs ps s t w
  from_listed s t w = (listed (record { from = s; to = t; weight = w })).0

  to_listed : (s t : ℕ) (w : ℤ) → Between gap stops legs ps s t w → Listed lags s t w
  to_listed s t w = (listed (record { from = s; to = t; weight = w })).1

  pub times_written : (p : Pages) (α : List ℕ) → Earliest lags α → length α ≡ length stops → p.timetable_after ≡ α ++ drop (length α) p.timetable → p.ring_after ≡ p.ring → TimesWritten (Between gap stops legs ps) (length stops) (max 36000 largest) p
  times_written p α e n w r = record {
    times = α;
    one_each = n;
    written = w;
    least = least_over (Between gap stops legs ps) (Listed lags) to_listed from_listed (λ s. slice_index α s) e.least;
    low = λ s. subst (λ m. slice_index α s ≤ (m - 1) * max 36000 largest) n (e.ceiling (max 36000 largest) (all under_one) s);
    ring_stands = r;
  }

  -- no arrival is too large for the timetable
  pub times_fit : (α : List ℕ) → Earliest lags α → length α ≡ length stops → (i : ℕ) → slice_index α i < 2 ^ 32
  times_fit α e n i =
      let c = e.ceiling 100000 (all (λ g l. (allowed_one g l).1.1)) i in
      let few = ready.consistent.few in
      omega (arith, c)

  pub ring_written : (p : Pages) (n k : ℕ) → Looped lags n k p.ring p.ring_after → k ≤ length p.ring_after → p.timetable_after ≡ p.timetable → RingWritten (Between gap stops legs ps) (length stops) (max 36000 largest) p k
  ring_written p n k l fits t = record {
    stops = take k p.ring_after;
    long = length-take-le k p.ring_after fits;
    ring = ring_over (Listed lags) (Between gap stops legs ps) from_listed (take k p.ring_after) l.ring;
    written =
        sym (take-append-drop k p.ring_after)
        ∙ ap (λ xs. take k p.ring_after ++ xs) (l.stands ∙ ap (λ m. drop m p.ring) (sym (length-take-le k p.ring_after fits)));
    timetable_stands = t;
  }
