-- Where and under which rule a sheet is judged.
use Rattle.std.specs.Prelude.{ℕ, cond, nat_le}
use Rattle.judge.specs.Findings.{Setting}
use Rattle.plan.specs.Plans.{Lanes}
use Rattle.yard.specs.Rules.{gaps_of}
use Rattle.yard.specs.declared.rules.Rule.{Rule}
use Rattle.yard.specs.declared.rules.Rule.TheVariants.{FullLane, LaneLessOne, FixedGap}

-- the ticks of a fixed gap: one above 36,000 is judged as a gap of 0
abbrev pub ticks_of : ℕ → ℕ
ticks_of gap = cond (nat_le gap 36000) gap 0

-- the largest gap that the rule can give
abbrev pub largest_of : Rule ℕ → ℕ
largest_of FullLane = 36000
largest_of LaneLessOne = 35999
largest_of (FixedGap gap) = 36000

-- a yard of these lanes, under this rule
abbrev pub setting_of : Lanes → Rule ℕ → Setting
setting_of lanes rule = record { lanes = lanes; gap = gaps_of ticks_of rule; largest = largest_of rule }
