-- Times, which are numbers, and lags between them, which are integers.
use Rattle.std.specs.Prelude.{◌≡◌, ℕ, suc, ◌+◌, ◌-◌, ℤ, pos, negsuc, ◌+ℤ◌, ◌≤ℤ◌, ◌<ℤ◌}

-- y is at least w after x
pub record AtLeast (x : ℕ) (w : ℤ) (y : ℕ) : Type 0 where
  pub so : (pos x +ℤ w) ≤ℤ pos y

-- y is at most w after x
pub record AtMost (x : ℕ) (w : ℤ) (y : ℕ) : Type 0 where
  pub so : pos y ≤ℤ (pos x +ℤ w)

-- y is less than w after x
pub record LessThan (x : ℕ) (w : ℤ) (y : ℕ) : Type 0 where
  pub so : pos y <ℤ (pos x +ℤ w)

-- y is w after x
pub record Exactly (x : ℕ) (w : ℤ) (y : ℕ) : Type 0 where
  pub so : pos y ≡ (pos x +ℤ w)

-- the time w after x, where that is not below 0
abbrev pub after : ℕ → ℤ → ℕ
after x (pos n) = x + n
after x (negsuc n) = x - suc n
