-- A refusal of a judging has its cause.
use Rattle.std.proofs.Common.{◌≡◌, ◌≢◌, ℕ, Some, None, Err, Option, IsSome, refl, sym, subst, ◌∙◌, inl, inr, arith}
use Rattle.std.proofs.lemmas.Option.{slice_get_within, get_or_from_slice_get}
use Rattle.sheet.specs.declared.sheets.Sheet.{Sheet}
use Rattle.sheet.specs.Book.{Next, Stands}
use Rattle.sheet.specs.Records.{no_carrier, no_stop}
use Rattle.sheet.specs.Sheets.{carriers_of, stops_of, sheet_book}
use Rattle.sheet.proofs.Facts.{goes_from, next_previous, stops_at_goal, visits_from}
use Rattle.plan.specs.Plans.{Leg, Opposed}
use Rattle.judge.specs.declared.refusal.JudgeRefusal.{JudgeRefusal}
use Rattle.judge.specs.declared.refusal.JudgeRefusal.TheVariants as refusal
use Rattle.judge.specs.Judged.{Answers, Away, CutOff, Judging, UndecidedAt}
use Rattle.explain.specs.Facts as facts
use Rattle.explain.specs.Found.{Finds}
use Rattle.explain.specs.Judged.{JudgeCauseOf, Opposes, order_of, stop_at}
use Rattle.explain.specs.Lists.{Lists, lists_of}
use Rattle.explain.specs.Refused.{RefusedJudging}
use Rattle.explain.specs.declared.judge_cause.JudgeCause.{JudgeCause}
use Rattle.explain.specs.declared.judge_cause.JudgeCause.TheVariants as cause
use Rattle.explain.proofs.Named.{Unnamed, visits, stands, stands_back}

module _ (sheet : Sheet) (lanes : ℕ → ℕ → Option ℕ) where
  abbrev lists : Lists
  lists = lists_of sheet

  -- the record of a stop keeps the one before it
  previous_is : (c p u t v : ℕ) → Next (sheet_book sheet) c p u t v → (stop_at lists t).previous ≡ Some p
  previous_is c p u t v next =
      let x = visits_from sheet t c v next.there in
      grind (arith, get_or_from_slice_get (stops_of sheet) t x.0 no_stop x.1, next_previous sheet c p u t v x.0 x.1 next)

  away_named : (c : ℕ) → Away (sheet_book sheet) c → ¬ Unnamed (JudgeCauseOf lanes lists (refusal.NotAtGoal c))
  away_named c away none =
      let x = goes_from sheet c away.its_goal.0 away.goal away.its_goal.1 in
      let at = get_or_from_slice_get (carriers_of sheet) c x.0 no_carrier x.1 in
      none _ (refl, slice_get_within (carriers_of sheet) c x.0 x.1, λ home. away.not_reached (x.0.last_stop, rw x.3 at (stops_at_goal sheet c x.0 x.1 (grind (arith, at, home)))))

  cut_off_named : (t : ℕ) → CutOff lanes (sheet_book sheet) t → ¬ Unnamed (JudgeCauseOf lanes lists (refusal.NoLane t))
  cut_off_named t cut none =
      let here = visits lists cut.s cut.c cut.u cut.step.here in
      let there = visits lists t cut.c cut.v cut.step.there in
      none _ (cut.s, refl, (here.0, there.0), previous_is cut.c cut.s cut.u t cut.v cut.step, rw (here.2, there.2) cut.no_lane)

  undecided_named : (s t : ℕ) → UndecidedAt (sheet_book sheet) s t → ¬ Unnamed (JudgeCauseOf lanes lists (refusal.Undecided s t))
  undecided_named s t at none =
      let here = visits lists s at.c at.u at.here in
      let there = visits lists t at.e at.u at.there in
      let first = λ (st : facts.Stands lists.precedences (order_of lists s t)). let k = stands_back lists _ st in at.nobody_first (k.0, inl (rw (← here.1, ← here.2, ← there.1) k.1)) in
      let second = λ (st : facts.Stands lists.precedences (facts.reversed (order_of lists s t))). let k = stands_back lists _ st in at.nobody_first (k.0, inr (rw (← here.1, ← here.2, ← there.1) k.1)) in
      none _ (refl, (here.0, there.0), λ same. at.other (sym here.1 ∙ same ∙ there.1), grind (arith, here, there), first, second)

  -- the carrier of the one stop goes to the place of the other, and goes first at its own
  opposes : (s t c e u v q d k : ℕ) → Leg lanes (sheet_book sheet) c s u q v d → facts.Visits lists.stops e v t → Stands (sheet_book sheet) k c e u → Opposes lists s t
  opposes s t c e u v q d k leg other first =
      let here = visits lists s c u leg.next.here in
      let there = visits lists q c v leg.next.there in
      ((q, ((there.0, previous_is c s u q v leg.next), there.2 ∙ sym other.2)), stands lists (order_of lists s t) (k, rw (here.1, here.2, other.1) first))

  opposed_named : (s t : ℕ) → Opposed lanes (sheet_book sheet) s t → ¬ Unnamed (JudgeCauseOf lanes lists (refusal.HeadOn s t))
  opposed_named s t at none =
      let (q, d, leg) = at.s_goes in
      let (r, f, back) = at.t_goes in
      let here = visits lists s at.c at.u leg.next.here in
      let there = visits lists t at.e at.v back.next.here in
      none _ (refl, (here.0, there.0), opposes s t at.c at.e at.u at.v q d at.first_at_u.0 leg there at.first_at_u.1, opposes t s at.e at.c at.v at.u r f at.first_at_v.0 back here at.first_at_v.1)

-- a judging with pages that are long enough names a cause of what it refuses
answer_named : (sheet : Sheet) (j : Judging) (why : JudgeRefusal) → Answers j (sheet_book sheet) (Err why) → why ≢ refusal.PageTooShort → ¬ Unnamed (JudgeCauseOf j.lanes (lists_of sheet) why)
answer_named sheet j (refusal.NotAtGoal c) told long = away_named sheet j.lanes c told.1.0
answer_named sheet j (refusal.NoLane t) told long = cut_off_named sheet j.lanes t told.2.0
answer_named sheet j (refusal.Undecided s t) told long = undecided_named sheet j.lanes s t told.3.0
answer_named sheet j (refusal.HeadOn s t) told long = opposed_named sheet j.lanes s t told.2.0
answer_named sheet j (refusal.Ring k) told long = λ none. none (cause.Ring k) refl
answer_named sheet j refusal.PageTooShort told long = absurd (long refl)

-- where a cause is found if there is one, one is found for a refusal of a judging
pub judge_named : (sheet : Sheet) (lanes : ℕ → ℕ → Option ℕ) (lists : Lists) (why : JudgeRefusal) (result : Option JudgeCause) → Finds (JudgeCauseOf lanes lists why) result → lists ≡ lists_of sheet → RefusedJudging lanes (sheet_book sheet) why → why ≢ refusal.PageTooShort → IsSome result
judge_named sheet lanes lists why (Some c) _ _ _ _ = refl
judge_named sheet lanes lists why None none is (j, same, answer, told) long =
    let answers = subst (λ r. Answers j (sheet_book sheet) r) answer told in
    absurd (rw (same, ← is) at (answer_named sheet j why answers long) none)
