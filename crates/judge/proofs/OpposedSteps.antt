-- One more precedence, while the lowest pair that is set head on is looked for.
use Rattle.std.proofs.Common.{◌≡◌, ℕ, ◌+◌, ◌<◌, Bool, ◌⊎◌, List, slice_index_or, MatchOption, Some, None, Option, Ordering, sym, subst, inl, inr, ⊎_elim, arith, rules}
use Rattle.std.proofs.lemmas.Bool.{cases_eq}
use Rattle.std.proofs.lemmas.Grind.{common_steps}
use Rattle.std.specs.Ordering.{nat_cmp, ord_min, ordering_then}
use Rattle.sheet.specs.declared.records.Precedence.{Precedence}
use Rattle.sheet.specs.declared.records.Stop.{Stop}
use Rattle.sheet.specs.Records.{no_precedence}
use Rattle.judge.specs.declared.legs.Leg.{Leg}
use Rattle.judge.specs.Meetings.{OpposedBy, OpposedBelow, LowestOpposed, NotAbove}

abbrev pair_cmp : ℕ × ℕ → ℕ × ℕ → Ordering
pair_cmp a b = ordering_then (nat_cmp a.0 b.0) (nat_cmp a.1 b.1)

-- the lower of two pairs is one of them, and not above either
lower_is : (a b r : ℕ × ℕ) → r ≡ ord_min pair_cmp a b → ((r ≡ a) ⊎ (r ≡ b)) × NotAbove r a.0 a.1 × NotAbove r b.0 b.1
lower_is a b r e = grind (arith, common_steps)

above_trans : (p q : ℕ × ℕ) (s t : ℕ) → NotAbove p q.0 q.1 → NotAbove q s t → NotAbove p s t
above_trans p q s t a b = search rules

module _ (stops : List Stop) (legs : List Leg) (leads : List Bool) (ps : List Precedence) (n : ℕ) where
  abbrev At : ℕ → ℕ → Type 0
  At s t = OpposedBy stops legs leads (slice_index_or ps n no_precedence) s t

  -- what is found at one precedence
  abbrev Found : ℕ × ℕ → Type 0
  Found p = (p.0 < 1024) × (p.1 < 1024) × At p.0 p.1 × ((s t : ℕ) → At s t → (p.0 ≡ s) × (p.1 ≡ t))

  split : (s t : ℕ) → OpposedBelow stops legs leads ps (n + 1) s t → OpposedBelow stops legs leads ps n s t ⊎ At s t
  split s t (k, h, o) = ⊎_elim (λ e. inr (rw e at o)) (λ ne. inl (k, omega arith, o)) (cases_eq k n)

  more : (s t : ℕ) → OpposedBelow stops legs leads ps n s t → OpposedBelow stops legs leads ps (n + 1) s t
  more s t (k, h, o) = (k, omega arith, o)

  -- nothing is found
  pub opposed_kept : (best : Option (ℕ × ℕ)) → LowestOpposed stops legs leads ps n best → ((s t : ℕ) → ¬ At s t) → LowestOpposed stops legs leads ps (n + 1) best
  opposed_kept None old none = λ s t q. ⊎_elim (old s t) (none s t) (split s t q)
  opposed_kept (Some p) old none = (old.0, old.1, more p.0 p.1 old.2, λ s t q. ⊎_elim (old.3 s t) (λ a. absurd (none s t a)) (split s t q))

  -- a pair is found, beside the lowest so far, if there is one
  pub opposed_found : (p r : ℕ × ℕ) (best : Option (ℕ × ℕ)) (Q : ℕ × ℕ → Type 0) → ((a : ℕ × ℕ) → Q a → r ≡ ord_min pair_cmp p a) → MatchOption best (r ≡ p) Q → LowestOpposed stops legs leads ps n best → Found p → LowestOpposed stops legs leads ps (n + 1) (Some r)
  opposed_found p r None Q lower is old new =
      rw is (
        new.0,
        new.1,
        (n, omega arith, new.2),
        λ s t q. ⊎_elim
            (λ k. absurd (old s t k))
            (λ k. grind (arith, new.3 s t k))
            (split s t q),
      )
  opposed_found p r (Some a) Q lower is old new =
      let l = lower_is p a r (lower a is) in
      let P : ℕ × ℕ → Type 0 = λ x. (x.0 < 1024) × (x.1 < 1024) × OpposedBelow stops legs leads ps (n + 1) x.0 x.1 in
      let one : P r = ⊎_elim
      (λ q. subst P (sym q) (new.0, new.1, (n, omega arith, new.2)))
      (λ q. subst P (sym q) (old.0, old.1, more a.0 a.1 old.2))
      l.0 in (
        one.0,
        one.1,
        one.2,
        λ s t q. ⊎_elim
            (λ k. above_trans r a s t l.2 (old.3 s t k))
            (λ k. grind (arith, new.3 s t k, l.1))
            (split s t q),
      )
