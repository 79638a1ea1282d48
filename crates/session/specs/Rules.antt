-- The following rules as lines name them.
use Rattle.std.specs.Prelude.{ℕ}
use Rattle.yard.specs.declared.rules.Rule.{Rule}
use Rattle.yard.specs.declared.rules.Rule.TheVariants.{FullLane, LaneLessOne, FixedGap}

-- the largest gap that the rule can give within its limit
abbrev pub largest_of : Rule ℕ → ℕ
largest_of FullLane = 36000
largest_of LaneLessOne = 35999
largest_of (FixedGap gap) = 36000
