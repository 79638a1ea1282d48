-- The arrivals that rounds over the lags give, each lag in turn raising its end, are at no stop later than any that keep the lags.
use Rattle.std.proofs.Common.{ℕ, zero, suc, ◌≤◌, max, List, [], ◌∷◌, slice_index, set, ℤ, pos, negsuc, ◌+ℤ◌, ◌≤ℤ◌, arith}
use Rattle.std.specs.List.{Contains}
use Rattle.std.proofs.lemmas.Grind.{common_steps}
use Rattle.std.proofs.lemmas.Int.{ints}
use Rattle.lags.specs.declared.Lag.{Lag}
use Rattle.lags.specs.Times.{after}
use Rattle.worked.proofs.Lists.{Contains-here, Contains-later}

-- no arrival is later
abbrev pub Under : (ℕ → ℕ) → List ℕ → Type 0
Under β times = (v : ℕ) → slice_index times v ≤ β v

set_under : (β : ℕ → ℕ) (times : List ℕ) (i a : ℕ) → a ≤ β i → Under β times → Under β (set times i a)
set_under β times i a h k v = grind (arith, common_steps, k v)

after_under : (x w_from w_to : ℕ) (w : ℤ) → x ≤ w_from → (pos w_from +ℤ w) ≤ℤ pos w_to → after x w ≤ w_to
after_under x f t (pos n) h k = omega (arith, ints)
after_under x f t (negsuc n) h k = omega (arith, ints)

-- a lag raises its end
abbrev raised : List ℕ → Lag → List ℕ
raised times g = set times g.to (max (slice_index times g.to) (after (slice_index times g.from) g.weight))

abbrev round : List Lag → List ℕ → List ℕ
round [] times = times
round (g ∷ gs) times = round gs (raised times g)

abbrev pub rounds : ℕ → List Lag → List ℕ → List ℕ
rounds zero gs times = times
rounds (suc n) gs times = rounds n gs (round gs times)

module _ (β : ℕ → ℕ) where
  abbrev Keeps : Lag → Type 0
  Keeps g = (pos (β g.from) +ℤ g.weight) ≤ℤ pos (β g.to)

  raised_under : (times : List ℕ) (g : Lag) → Keeps g → Under β times → Under β (raised times g)
  raised_under times g k under =
      let here = under g.to in
      let there = after_under (slice_index times g.from) (β g.from) (β g.to) g.weight (under g.from) k in
      set_under β times g.to (max (slice_index times g.to) (after (slice_index times g.from) g.weight)) (omega arith) under

  round_under : (gs : List Lag) (times : List ℕ) → ((g : Lag) → Contains gs g → Keeps g) → Under β times → Under β (round gs times)
  round_under [] times k under = under
  round_under (g ∷ gs) times k under = round_under gs (raised times g) (λ h l. k h (Contains-later g gs h l)) (raised_under times g (k g (Contains-here g gs)) under)

  pub rounds_under : (n : ℕ) (gs : List Lag) (times : List ℕ) → ((g : Lag) → Contains gs g → Keeps g) → Under β times → Under β (rounds n gs times)
  rounds_under zero gs times k under = under
  rounds_under (suc n) gs times k under = rounds_under n gs (round gs times) k (round_under gs times k under)
