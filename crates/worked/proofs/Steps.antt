-- Exactly the steps, the legs, the lags, the open meetings and the opposed stops of a book, listed.
use Rattle.std.proofs.Common.{◌≡◌, ℕ, ◌+◌, ◌<◌, Bool, true, not, [], ◌∷◌, sym, arith, ◌&&◌, eqb, ltb, ◌≢◌, ◌⊎◌, List, ◌++◌, ℤ, pos, ◌-ℤ◌, Some, None, Decides, Option, refl, ap, ◌∙◌, subst, subst₂, inl, inr, rules}
use Rattle.std.specs.List.{Contains, list_any, flat_map}
use Rattle.std.proofs.lemmas.Bool.Decides.{Decides-eqb, Decides-ltb, Decides-not, Decides-and}
use Rattle.lags.specs.declared.Lag.{Lag as LagRecord}
use Rattle.sheet.specs.Book.{BookStop, BookPrecedence, Book, Visits, Stands, Next, Decided}
use Rattle.sheet.specs.Calls.{Standing}
use Rattle.plan.specs.Lags.{Lag, travel, wait}
use Rattle.plan.specs.Plans.{Lanes, Gaps, Leg, Opposed}
use Rattle.judge.specs.Judged.{UndecidedAt}
use Rattle.worked.proofs.Lists.{Contains-here, Contains-only, Exactly, exactly_append, decides_some, numbered, exactly_numbered, pairs, exactly_pairs, exactly_flat_map, kept, exactly_kept}
use Rattle.worked.proofs.Entries.{decided?, decides_decided, standing?, decides_standing}

-- a step of carrier c from stop s at u to stop t at v
pub record Step : Type 0 where
  pub c : ℕ
  pub s : ℕ
  pub u : ℕ
  pub t : ℕ
  pub v : ℕ

-- a stop with its number, a precedence with its number, and a step with its travel time
abbrev pub AStop : Type 0
AStop = ℕ × BookStop

abbrev pub APrecedence : Type 0
APrecedence = ℕ × BookPrecedence

abbrev pub ALeg : Type 0
ALeg = Step × ℕ

-- tests of numbers say what they test
pub ruleset decided_numbers = (Decides-and, Decides-not, Decides-eqb, Decides-ltb)

module _ (b : Book) where
  abbrev pub IsStop : AStop → Type 0
  IsStop p = Visits b p.0 p.1.carrier p.1.place

  abbrev pub visits : List AStop
  visits = numbered b.stops

  pub exactly_visits : Exactly IsStop visits
  exactly_visits = exactly_numbered b.stops

  abbrev pub IsPrecedence : APrecedence → Type 0
  IsPrecedence k = Stands b k.0 k.1.first k.1.second k.1.place

  abbrev pub standing : List APrecedence
  standing = numbered b.precedences

  pub exactly_standing : Exactly IsPrecedence standing
  exactly_standing = exactly_numbered b.precedences

  abbrev pub TwoStops : AStop × AStop → Type 0
  TwoStops p = IsStop p.0 × IsStop p.1

  pub exactly_two : Exactly TwoStops (pairs visits visits)
  exactly_two = exactly_pairs exactly_visits exactly_visits

  -- a stop of p's carrier stands between p and q
  abbrev ComesBetween : AStop → AStop → AStop → Type 0
  ComesBetween p q r = (p.0 < r.0) × ((r.0 < q.0) × (r.1.carrier ≡ p.1.carrier))

  abbrev comes_between? : AStop → AStop → AStop → Bool
  comes_between? p q r = ltb p.0 r.0 && (ltb r.0 q.0 && eqb r.1.carrier p.1.carrier)

  abbrev between? : AStop → AStop → Bool
  between? p q = list_any (comes_between? p q) visits

  abbrev IsNext : AStop × AStop → Type 0
  IsNext p = (p.1.1.carrier ≡ p.0.1.carrier) × ((p.0.0 < p.1.0) × ¬ ((r : AStop) × IsStop r × ComesBetween p.0 p.1 r))

  abbrev next? : AStop × AStop → Bool
  next? p = eqb p.1.1.carrier p.0.1.carrier && (ltb p.0.0 p.1.0 && not (between? p.0 p.1))

  decides_next : (p : AStop × AStop) → Decides (next? p) (IsNext p)
  decides_next p =
      let between = decides_some (ComesBetween p.0 p.1) (comes_between? p.0 p.1) exactly_visits (λ r. search (rules, decided_numbers)) in
      search (rules, decided_numbers, between)

  abbrev step_between : AStop × AStop → Step
  step_between p = record { c = p.0.1.carrier; s = p.0.0; u = p.0.1.place; t = p.1.0; v = p.1.1.place }

  abbrev pub IsStep : Step → Type 0
  IsStep z = Next b z.c z.s z.u z.t z.v

  abbrev pub steps : List Step
  steps = kept next? step_between (pairs visits visits)

  pub exactly_steps : Exactly IsStep steps
  exactly_steps =
      exactly_kept IsNext IsStep next? step_between exactly_two decides_next
      (λ p at d. record {
        here = at.0;
        there = at.1 ∙ ap (λ (c : ℕ). Some (record { carrier = c; place = p.1.1.place })) d.0;
        later = d.1.0;
        none_between = λ r w l m h. d.1.1 ((r, record { carrier = p.0.1.carrier; place = w }), h, (l, (m, refl)));
      })
      (λ z n. (
        ((z.s, record { carrier = z.c; place = z.u }), (z.t, record { carrier = z.c; place = z.v })),
        (n.here, n.there),
        (
          refl,
          (
            n.later,
            λ (r, h, (l, (m, e))).
                n.none_between r.0 r.1.place l m (h ∙ ap (λ (c : ℕ). Some (record { carrier = c; place = r.1.place })) e),
          ),
        ),
        refl,
      ))

  -- two carriers at one place, of which neither goes first
  abbrev Open : AStop × AStop → Type 0
  Open p = (p.0.1.carrier ≢ p.1.1.carrier) × ((p.1.1.place ≡ p.0.1.place) × ((p.0.0 < p.1.0) × ¬ Decided b p.0.1.carrier p.1.1.carrier p.0.1.place))

  abbrev open? : AStop × AStop → Bool
  open? p = not (eqb p.0.1.carrier p.1.1.carrier) && (eqb p.1.1.place p.0.1.place && (ltb p.0.0 p.1.0 && not (decided? b p.0.1.carrier p.1.1.carrier p.0.1.place)))

  decides_open : (p : AStop × AStop) → Decides (open? p) (Open p)
  decides_open p = search (rules, decided_numbers, decides_decided)

  abbrev numbers : AStop × AStop → ℕ × ℕ
  numbers p = (p.0.0, p.1.0)

  abbrev pub open_meetings : List (ℕ × ℕ)
  open_meetings = kept open? numbers (pairs visits visits)

  pub exactly_open : Exactly (λ (n : ℕ × ℕ). UndecidedAt b n.0 n.1) open_meetings
  exactly_open =
      exactly_kept {B = ℕ × ℕ} Open (λ n. UndecidedAt b n.0 n.1) open? numbers exactly_two decides_open
      (λ p at d. record {
        c = p.0.1.carrier;
        e = p.1.1.carrier;
        u = p.0.1.place;
        other = d.0;
        here = at.0;
        there = at.1 ∙ ap (λ (u : ℕ). Some (record { carrier = p.1.1.carrier; place = u })) d.1.0;
        later = d.1.1.0;
        nobody_first = d.1.1.1;
      })
      (λ n m. (
        ((n.0, record { carrier = m.c; place = m.u }), (n.1, record { carrier = m.e; place = m.u })),
        (m.here, m.there),
        (m.other, (refl, (m.later, m.nobody_first))),
        refl,
      ))

  module _ (lanes : Lanes) where
    abbrev pub IsLeg : ALeg → Type 0
    IsLeg l = Leg lanes b l.0.c l.0.s l.0.u l.0.t l.0.v l.1

    -- the step with its lane's travel time, if there is a lane
    abbrev timed : Step → Option ℕ → List ALeg
    timed z None = []
    timed z (Some d) = (z, d) ∷ []

    timed_each : (z : Step) (o : Option ℕ) (l : ALeg) → Contains (timed z o) l → (z ≡ l.0) × (o ≡ Some l.1)
    timed_each z None l (k, h, e) = absurd (omega arith)
    timed_each z (Some d) l h = let q = Contains-only {A = ALeg} (z, d) l h in (ap (λ (m : ALeg). m.0) q, ap (λ (m : ALeg). Some m.1) q)

    abbrev pub legs : List ALeg
    legs = flat_map (λ z. timed z (lanes z.u z.v)) steps

    pub exactly_legs : Exactly IsLeg legs
    exactly_legs =
        exactly_flat_map IsLeg (λ z. timed z (lanes z.u z.v)) exactly_steps
        (λ z l n h.
        let q = timed_each z (lanes z.u z.v) l h in
        subst (λ (m : Step). IsLeg (m, l.1)) q.0 (record { next = n; lane = q.1 }))
        (λ l g. (l.0, g.next, subst (λ o. Contains (timed l.0 o) l) (sym g.lane) (Contains-here {A = ALeg} l [])))

    -- two legs there and back, each of whose carriers goes first where it comes from
    abbrev Facing : ALeg × ALeg → Type 0
    Facing p = (p.1.0.v ≡ p.0.0.u) × ((p.1.0.u ≡ p.0.0.v) × (Standing b p.0.0.c p.1.0.c p.0.0.u × Standing b p.1.0.c p.0.0.c p.0.0.v))

    abbrev facing? : ALeg × ALeg → Bool
    facing? p = eqb p.1.0.v p.0.0.u && (eqb p.1.0.u p.0.0.v && (standing? b p.0.0.c p.1.0.c p.0.0.u && standing? b p.1.0.c p.0.0.c p.0.0.v))

    decides_facing : (p : ALeg × ALeg) → Decides (facing? p) (Facing p)
    decides_facing p = search (rules, decided_numbers, decides_standing)

    abbrev froms : ALeg × ALeg → ℕ × ℕ
    froms p = (p.0.0.s, p.1.0.s)

    abbrev pub opposed : List (ℕ × ℕ)
    opposed = kept facing? froms (pairs legs legs)

    pub exactly_opposed : Exactly (λ (n : ℕ × ℕ). Opposed lanes b n.0 n.1) opposed
    exactly_opposed =
        exactly_kept {B = ℕ × ℕ} Facing (λ n. Opposed lanes b n.0 n.1) facing? froms (exactly_pairs exactly_legs exactly_legs) decides_facing
        (λ p at d. let l = p.0.0 in
        let m = p.1.0 in
        record {
          c = l.c;
          e = m.c;
          u = l.u;
          v = l.v;
          s_goes = (l.t, p.0.1, at.0);
          t_goes = (m.t, p.1.1, subst₂ (λ (v u : ℕ). Leg lanes b m.c m.s v m.t u p.1.1) d.1.0 d.0 at.1);
          first_at_u = d.1.1.0;
          first_at_v = d.1.1.1;
        })
        (λ n o. (
          ((record { c = o.c; s = n.0; u = o.u; t = o.s_goes.0; v = o.v }, o.s_goes.1), (record { c = o.e; s = n.1; u = o.v; t = o.t_goes.0; v = o.u }, o.t_goes.1)),
          (o.s_goes.2, o.t_goes.2),
          (refl, (refl, (o.first_at_u, o.first_at_v))),
          refl,
        ))

    module _ (gap : Gaps) where
      abbrev pub IsLag : LagRecord → Type 0
      IsLag g = Lag lanes gap b g.from g.to g.weight

      abbrev travel_lag : ALeg → LagRecord
      travel_lag l = record { from = l.0.s; to = l.0.t; weight = pos l.1 }

      -- a precedence, a leg and a stop
      abbrev Meeting : Type 0
      Meeting = APrecedence × (ALeg × AStop)

      abbrev AreThere : Meeting → Type 0
      AreThere m = IsPrecedence m.0 × (IsLeg m.1.0 × IsStop m.1.1)

      -- the leg's carrier goes first where the leg begins, and the stop is the second's there
      abbrev Waits : Meeting → Type 0
      Waits m = (m.0.1.first ≡ m.1.0.0.c) × ((m.0.1.second ≡ m.1.1.1.carrier) × ((m.0.1.place ≡ m.1.0.0.u) × (m.1.1.1.place ≡ m.1.0.0.u)))

      abbrev waits? : Meeting → Bool
      waits? m = eqb m.0.1.first m.1.0.0.c && (eqb m.0.1.second m.1.1.1.carrier && (eqb m.0.1.place m.1.0.0.u && eqb m.1.1.1.place m.1.0.0.u))

      decides_waits : (m : Meeting) → Decides (waits? m) (Waits m)
      decides_waits m = search (rules, decided_numbers)

      abbrev lag_of : Meeting → LagRecord
      lag_of m = record { from = m.1.0.0.t; to = m.1.1.0; weight = pos (gap m.1.0.0.u m.1.0.0.v m.1.0.1 + 1) -ℤ pos m.1.0.1 }

      abbrev meetings : List Meeting
      meetings = pairs standing (pairs legs visits)

      -- the travel lags, then the waiting lags
      abbrev pub lags : List LagRecord
      lags = kept (λ l. true) travel_lag legs ++ kept waits? lag_of meetings

      abbrev FromLeg : LagRecord → Type 0
      FromLeg g = (l : ALeg) × IsLeg l × Unit {0} × (travel_lag l ≡ g)

      abbrev FromMeeting : LagRecord → Type 0
      FromMeeting g = (m : Meeting) × AreThere m × Waits m × (lag_of m ≡ g)

      from_meeting : (g : LagRecord) → FromMeeting g → IsLag g
      from_meeting g (m, at, d, e) =
          let stands : Stands b m.0.0 m.1.0.0.c m.1.1.1.carrier m.1.0.0.u = at.0 ∙ (λ i. Some (record { first = d.0 i; second = d.1.0 i; place = d.1.1.0 i })) in
          let visit : Visits b m.1.1.0 m.1.1.1.carrier m.1.0.0.u = at.1.1 ∙ (λ i. Some (record { carrier = m.1.1.1.carrier; place = d.1.1.1 i })) in
          subst IsLag e (wait m.0.0 stands at.1.0 visit)

      listed : {s t : ℕ} {w : ℤ} → Lag lanes gap b s t w → FromLeg (record { from = s; to = t; weight = w }) ⊎ FromMeeting (record { from = s; to = t; weight = w })
      listed (travel {c = c} {s = s} {u = u} {t = t} {v = v} {d = d} leg) = inl ((record { c = c; s = s; u = u; t = t; v = v }, d), leg, tt, refl)
      listed (wait k {first = first} {second = second} {s = s} {u = u} {t = t} {v = v} {d = d} {r = r} stands leg visit) =
          let m : Meeting = ((k, record { first = first; second = second; place = u }), ((record { c = first; s = s; u = u; t = t; v = v }, d), (r, record { carrier = second; place = u }))) in
          inr (m, (stands, (leg, visit)), (refl, (refl, (refl, refl))), refl)

      pub exactly_lags : Exactly IsLag lags
      exactly_lags =
          exactly_append
          (exactly_kept (λ l. Unit {0}) FromLeg (λ l. true) travel_lag exactly_legs (λ l. (λ _. tt, λ _. refl)) (λ l at d. (l, at, d, refl)) (λ g f. f))
          (exactly_kept Waits FromMeeting waits? lag_of (exactly_pairs exactly_standing (exactly_pairs exactly_legs exactly_visits)) decides_waits (λ m at d. (m, at, d, refl)) (λ g f. f))
          (λ g (l, at, d, e). subst IsLag e (travel at))
          from_meeting (λ g k. listed k)
