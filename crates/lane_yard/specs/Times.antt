-- What lanes within the limits answer.
use Rattle.std.specs.Prelude.{ℕ, suc, List, [], ◌∷◌, IfSome}
use Rattle.std.proofs.Common.{arith}
use Rattle.std.proofs.lemmas.Bool.Decides.{nat_tests}
use Rattle.yard.specs.Limits.{LaneWithin}
use Rattle.lane_yard.specs.declared.lane.Lane.{Lane}
use Rattle.lane_yard.specs.Records.{time_of, Within, AllWithin}

-- what lanes within the limits answer is within the limits
pub time_within : (xs : List Lane) (f t : ℕ) → AllWithin xs → IfSome (time_of xs f t) (λ n. LaneWithin f t n)
time_within [] f t s = tt
time_within (l ∷ ls) f t s =
    let here : Within l = s 0 (omega arith) in
    let later = time_within ls f t (λ k h. s (suc k) (omega arith)) in
    grind (arith, nat_tests)
