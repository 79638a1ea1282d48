-- The gaps of the rules, whatever a fixed gap is kept as.
use Rattle.std.specs.Prelude.{ℕ, ◌-◌}
use Rattle.yard.specs.declared.rules.Rule.{Rule}
use Rattle.yard.specs.declared.rules.Rule.TheVariants.{FullLane, LaneLessOne, FixedGap}

-- the gap behind a carrier, where a fixed gap has so many ticks
abbrev pub gaps_of : {G : Type 0} → (G → ℕ) → Rule G → ℕ → ℕ → ℕ → ℕ
gaps_of ticks FullLane = λ from to time. time
gaps_of ticks LaneLessOne = λ from to time. time - 1
gaps_of ticks (FixedGap gap) = λ from to time. ticks gap

-- the number that a rule names for a gap: that of a fixed gap, else 0
abbrev pub gap_of : Rule ℕ → ℕ
gap_of FullLane = 0
gap_of LaneLessOne = 0
gap_of (FixedGap gap) = gap
