-- How many ticks a lag has.
use Rattle.std.specs.Prelude.{◌+◌, ℤ, pos, ◌-ℤ◌}
use Rattle.explain.specs.declared.lag.Lag.{Lag}
use Rattle.explain.specs.declared.lag.Lag.TheVariants.{Travel, Waiting}

abbrev pub ticks_of : Lag → ℤ
ticks_of (Travel carrier from to time) = pos time
ticks_of (Waiting first second place next gap time) = pos (gap + 1) -ℤ pos time
