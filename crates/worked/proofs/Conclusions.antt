-- What a judging finds in a book, by tests.
use Rattle.std.proofs.Common.{◌≡◌, ℕ, zero, suc, ◌-◌, ◌*◌, ◌<◌, ◌≤◌, max, Bool, true, not, ◌&&◌, ◌||◌, T, eqb, ltb, leb, List, [], ◌∷◌, map, length, slice_index_or, slice_index, ℤ, pos, ◌+ℤ◌, sym, ◌∙◌, subst, le_trans, mul-le-mul_left, arith, rules}
use native.Mathlib.Nat.{le-max_left}
use lib.Signed.{le_z, lt_z}
use Rattle.std.proofs.Math.ListN.{get_or-map}
use Rattle.std.specs.List.{Contains, list_any, list_all}
use Rattle.std.proofs.iter.runs.Lists.{none-some}
use Rattle.std.proofs.lemmas.Bool.Decides.{nat_tests}
use Rattle.std.proofs.lemmas.Bool.{and_parts, eqb-true, leb-true}
use Rattle.lags.specs.declared.Lag.{Lag as LagRecord}
use Rattle.lags.specs.Solved.{Listed}
use Rattle.lags.specs.Ways.{Way, Ring, Solution}
use Rattle.sheet.specs.Book.{BookStop, Book}
use Rattle.plan.specs.Lags.{Lag}
use Rattle.plan.specs.Plans.{Opposed}
use Rattle.plan.specs.Theorems.{Positive, FromZero, LagsDecideIn}
use Rattle.plan.proofs.Decided.{decide_in}
use Rattle.judge.specs.Findings.{Setting, undecided, head_on, in_a_ring, passes, Finds}
use Rattle.judge.specs.Judged.{UndecidedAt}
use Rattle.worked.specs.Examples.{AreTheLags}
use Rattle.worked.proofs.Lists.{Exactly, each_passes, decides_some, numbered, exactly_numbered, pairs, exactly_pairs}
use Rattle.worked.proofs.Steps.{AStop, decided_numbers, visits, exactly_visits, open_meetings, exactly_open, opposed, exactly_opposed, lags, exactly_lags}
use Rattle.worked.proofs.Tests.{home?, home, on_lanes?, on_lanes, whole?, whole, lowest?, lowest}
use Rattle.worked.proofs.Rounds.{rounds, rounds_under}

-- every number of a list is at most n
under_all : (n : ℕ) (times : List ℕ) → list_all (λ (t : ℕ). leb t n) times ≡ true → (s : ℕ) → slice_index times s ≤ n
under_all n [] h s = omega arith
under_all n (t ∷ ts) h zero = leb-true _ _ (and_parts _ _ h).0
under_all n (t ∷ ts) h (suc s) = under_all n ts (and_parts _ _ h).1 s

zeros_under : (β : ℕ → ℕ) (xs : List BookStop) (v : ℕ) → slice_index_or (map (λ (x : BookStop). 0) xs) v 0 ≤ β v
zeros_under β xs v = omega (arith, get_or-map {B = ℕ} (λ (x : BookStop). 0) xs v (record { carrier = 0; place = 0 }))

-- the nodes of a ring are distinct, and the first is the lowest
abbrev apart? : (ℕ × ℕ) × (ℕ × ℕ) → Bool
apart? p = not (eqb p.0.1 p.1.1) || eqb p.0.0 p.1.0

abbrev ring? : ℕ → List ℕ → Bool
ring? from l = list_all apart? (pairs (numbered l) (numbered l)) && list_all (λ (p : ℕ × ℕ). leb from p.1) (numbered l)

a_ring : (Between : ℕ → ℕ → ℤ → Type 0) (from : ℕ) (ts : List ℕ) (w : ℤ) → Way Between from (from ∷ ts) from w → lt_z (pos 0) w ≡ true → ring? from (from ∷ ts) ≡ true → Ring Between (from ∷ ts)
a_ring Between from ts w round above h =
    let l = from ∷ ts in
    let p = and_parts _ _ h in
    record {
      from = from;
      sum = w;
      round = round;
      above = record { lt = subst T (sym above) tt };
      distinct = λ i j s at there.
          let passes = each_passes apart? (exactly_pairs (exactly_numbered l) (exactly_numbered l)) p.0 ((i, s), (j, s)) (at, there) in
          grind (arith, nat_tests);
      lowest_first = λ i s at. leb-true _ _ (each_passes (λ q. leb from q.1) (exactly_numbered l) p.1 (i, s) at);
    }

-- nothing is in an empty list of pairs
none_in : (P : ℕ → ℕ → Type 0) (xs : List (ℕ × ℕ)) → Exactly (λ (n : ℕ × ℕ). P n.0 n.1) xs → xs ≡ [] → (s t : ℕ) → ¬ P s t
none_in P xs l e s t p = let at = subst (λ ys. Contains ys (s, t)) e (l.every (s, t) p) in absurd (omega (arith, at.1))

module _ (y : Setting) (b : Book) where
  abbrev all_lags : List LagRecord
  all_lags = lags b y.lanes y.gap

  -- the lags are those listed
  pub the_lags : (gs : List LagRecord) → all_lags ≡ gs → AreTheLags y b gs
  the_lags gs e s t w =
      let g : LagRecord = record { from = s; to = t; weight = w } in
      let l = exactly_lags b y.lanes y.gap in (
        λ lag. subst (λ hs. Listed hs s t w) e (l.every g lag),
        λ h. l.each g (subst (λ hs. Listed hs s t w) (sym e) h),
      )

  -- the arrivals that the rounds give
  abbrev pub times_of : List ℕ
  times_of = rounds (length b.stops) all_lags (map (λ (x : BookStop). 0) b.stops)

  -- they keep every lag
  abbrev kept? : List ℕ → Bool
  kept? times = list_all (λ (g : LagRecord). le_z (pos (slice_index times g.from) +ℤ g.weight) (pos (slice_index times g.to))) all_lags

  pub kept : (times : List ℕ) → kept? times ≡ true → Solution (Lag y.lanes y.gap b) (λ s. slice_index times s)
  kept times h s t w lag =
      let e = each_passes _ (exactly_lags b y.lanes y.gap) h (record { from = s; to = t; weight = w }) lag in
      record { le = subst T (sym e) tt }

  -- a stop is not its carrier's first, or its arrival is 0
  abbrev earlier? : AStop → AStop → Bool
  earlier? p r = ltb r.0 p.0 && eqb r.1.carrier p.1.carrier

  abbrev from_zero? : List ℕ → Bool
  from_zero? times = list_all (λ (p : AStop). eqb (slice_index times p.0) 0 || list_any (earlier? p) (visits b)) (visits b)

  from_zero : (times : List ℕ) → from_zero? times ≡ true → FromZero b (λ s. slice_index times s)
  from_zero times h c s u at =
      let p : AStop = (s, record { carrier = c; place = u }) in
      let earlier = decides_some (λ (q : AStop). (q.0 < s) × (q.1.carrier ≡ c)) (earlier? p) (exactly_visits b) (λ q. search (rules, decided_numbers)) in
      let none : ¬ list_any (earlier? p) (visits b) ≡ true = λ e. let (q, visit, (below, same)) = earlier.0 e in at.first q.0 q.1.place below (rw same at visit) in
      let passes = each_passes (λ q. eqb (slice_index times q.0) 0 || list_any (earlier? q) (visits b)) (exactly_visits b) h p at.here in
      grind (arith, nat_tests)

  -- a ceiling whatever the rule's largest gap is
  abbrev top : ℕ
  top = (length b.stops - 1) * 36000

  top_low : (n : ℕ) → n ≤ top → n ≤ (length b.stops - 1) * max 36000 y.largest
  top_low n h = le_trans h (mul-le-mul_left (length b.stops - 1) (le-max_left 36000 y.largest))

  -- one arrival for each stop, none above the ceiling, each lag kept, and 0 at each start
  abbrev pub fits? : List ℕ → Bool
  fits? times = (eqb (length times) (length b.stops) && list_all (λ (t : ℕ). leb t top) times) && (kept? times && from_zero? times)

  -- two stops are undecided
  pub finds_undecided : (s t : ℕ) → (home? y.lanes b && on_lanes? y.lanes b) ≡ true → lowest? (open_meetings b) s t ≡ true → Finds y b (undecided s t)
  finds_undecided s t h l =
      let p = and_parts _ _ h in (
        λ c a. a.not_reached (home y.lanes b p.0 c a.goal a.its_goal),
        λ q o. let d = on_lanes y.lanes b p.1 o.c o.s o.u q o.v o.step in none-some d.0 (sym o.no_lane ∙ d.1),
        lowest (UndecidedAt b) (open_meetings b) (exactly_open b) s t l,
      )

  module _ (positive : Positive y.lanes) (tested : whole? y.lanes b ≡ true) where
    decides : LagsDecideIn y.lanes y.gap b
    decides = decide_in y.lanes y.gap b positive (whole y.lanes b tested).1

    -- two stops are set head on
    pub finds_head_on : (s t : ℕ) → lowest? (opposed b y.lanes) s t ≡ true → Finds y b (head_on s t)
    finds_head_on s t l =
        let at = lowest (Opposed y.lanes b) (opposed b y.lanes) (exactly_opposed b y.lanes) s t l in
        ((whole y.lanes b tested).0, at, λ (α, good). decides.opposed_none s t at.0 α good)

    module _ (none : opposed b y.lanes ≡ []) where
      none_opposed : (s t : ℕ) → ¬ Opposed y.lanes b s t
      none_opposed = none_in (Opposed y.lanes b) (opposed b y.lanes) (exactly_opposed b y.lanes) none

      -- stops wait for each other in a ring
      pub finds_ring : (from : ℕ) (ts : List ℕ) (w : ℤ) → Way (Lag y.lanes y.gap b) from (from ∷ ts) from w → lt_z (pos 0) w ≡ true → ring? from (from ∷ ts) ≡ true → Finds y b (in_a_ring (from ∷ ts))
      finds_ring from ts w round above h =
          let r = a_ring (Lag y.lanes y.gap b) from ts w round above h in
          ((whole y.lanes b tested).0, none_opposed, r, λ (α, good). decides.ring_none (from ∷ ts) r α good)

      -- the sheet passes
      pub finds_passes : (times : List ℕ) → times_of ≡ times → fits? times ≡ true → Finds y b (passes times)
      finds_passes times e h =
          let complete = (whole y.lanes b tested).0 in
          let p = and_parts _ _ h in
          let q = and_parts _ _ p.0 in
          let r = and_parts _ _ p.1 in (
            complete,
            record {
              one_each = eqb-true _ _ q.0;
              earliest = record {
                good = decides.kept_good complete none_opposed (λ s. slice_index times s) (from_zero times r.1) (kept times r.0);
                least = λ β good s l.
                    let solves = decides.good_keeps β good in
                    subst (λ (ts : List ℕ). slice_index ts s ≤ β s) e (rounds_under β (length b.stops) all_lags (map (λ (x : BookStop). 0) b.stops) (λ g k. solves g.from g.to g.weight ((exactly_lags b y.lanes y.gap).each g k)) (zeros_under β b.stops) s);
              };
              ceiling = λ s. top_low (slice_index times s) (under_all top times q.1 s);
            },
          )
