-- The laws of times and lags: what the other proofs know of numbers and integers.
use Rattle.std.proofs.Common.{◌≡◌, ℕ, int_lt, ◌<◌, ◌≤◌, true, false, ℤ, pos, negsuc, ◌+ℤ◌, ◌<ℤ◌, refl, arith}
use Rattle.std.proofs.lemmas.Int.{ints}
use Rattle.lags.specs.Times.{AtLeast, AtMost, LessThan, Exactly, after}

module _ {x y : ℕ} {w : ℤ} where
  pub exactly_at_least : Exactly x w y → AtLeast x w y
  exactly_at_least e = record { so = omega (arith, ints) }

  pub exactly_at_most : Exactly x w y → AtMost x w y
  exactly_at_most e = record { so = omega (arith, ints) }

  -- a raise goes up
  pub raised_above : {y' : ℕ} → LessThan x w y → Exactly x w y' → y < y'
  raised_above l e = omega (arith, ints)

-- a lag keeps the order
module _ {x x' y : ℕ} {w : ℤ} where
  pub at_most_later : x ≤ x' → AtMost x w y → AtMost x' w y
  at_most_later h m = record { so = omega (arith, ints) }

  pub less_than_later : x < x' → AtMost x w y → LessThan x' w y
  less_than_later h m = record { so = omega (arith, ints) }

  pub less_than_still : x ≤ x' → LessThan x w y → LessThan x' w y
  less_than_still h m = record { so = omega (arith, ints) }

  -- what is at most w after x is no later than what is at least w after a later time
  pub no_later : {y' : ℕ} → x ≤ x' → AtMost x w y → AtLeast x' w y' → y ≤ y'
  no_later h m l = omega (arith, ints)

pub at_least_later : {x y y' : ℕ} {w : ℤ} → y ≤ y' → AtLeast x w y → AtLeast x w y'
at_least_later h l = record { so = omega (arith, ints) }

-- lags add up
pub at_least_none : (x : ℕ) → AtLeast x (pos 0) x
at_least_none x = record { so = omega (arith, ints) }

pub at_most_none : (x : ℕ) → AtMost x (pos 0) x
at_most_none x = record { so = omega (arith, ints) }

pub sum_none : (w : ℤ) → w ≡ (pos 0 +ℤ w)
sum_none w = omega (arith, ints)

pub sum_assoc : (u v w : ℤ) → (u +ℤ (v +ℤ w)) ≡ ((u +ℤ v) +ℤ w)
sum_assoc u v w = omega (arith, ints)

module _ {x y z : ℕ} {v w : ℤ} where
  pub at_least_adds : AtLeast x v y → AtLeast y w z → AtLeast x (v +ℤ w) z
  at_least_adds h k = record { so = omega (arith, ints) }

  pub at_most_adds : AtMost x v y → AtMost y w z → AtMost x (v +ℤ w) z
  at_most_adds h k = record { so = omega (arith, ints) }

  pub less_than_adds_left : LessThan x v y → AtMost y w z → LessThan x (v +ℤ w) z
  less_than_adds_left h k = record { so = omega (arith, ints) }

  pub less_than_adds_right : AtMost x v y → LessThan y w z → LessThan x (v +ℤ w) z
  less_than_adds_right h k = record { so = omega (arith, ints) }

-- a lag above zero raises, and only such a one
pub above_raises : {x : ℕ} {w : ℤ} → pos 0 <ℤ w → ¬ AtLeast x w x
above_raises a l = omega (arith, ints)

pub above_from_less : {x : ℕ} {w : ℤ} → LessThan x w x → pos 0 <ℤ w
above_from_less l = omega (arith, ints)

-- the time after a lag that is not kept
pub after_is : {x y : ℕ} {w : ℤ} → LessThan x w y → Exactly x w (after x w)
after_is {x} {y} {w} h = record { so = is x y w h.so }
  where
    is : (x y : ℕ) (w : ℤ) → pos y <ℤ (pos x +ℤ w) → pos (after x w) ≡ (pos x +ℤ w)
    is x y (pos n) h = refl
    is x y (negsuc n) h = omega (arith, ints)

-- the test whether a lag is not kept
pub less_than_from_test : {x y : ℕ} {w : ℤ} → int_lt (pos y) (pos x +ℤ w) ≡ true → LessThan x w y
less_than_from_test h = record { so = grind (arith, ints) }

pub at_least_from_test : {x y : ℕ} {w : ℤ} → int_lt (pos y) (pos x +ℤ w) ≡ false → AtLeast x w y
at_least_from_test h = record { so = grind (arith, ints) }

pub not_both : {x y : ℕ} {w : ℤ} → AtLeast x w y → ¬ LessThan x w y
not_both h k = omega (arith, ints)
