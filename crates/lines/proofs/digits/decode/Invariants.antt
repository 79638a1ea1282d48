use Rattle.std.proofs.Common.{◌≡◌, take, map, slice_index}
use Rattle.lines.specs.Digits.{byte}
use Rattle.lines.proofs.digits.decode.Given as goal

abbrev pub invariant-loop-high : goal.invariant-loop-high
invariant-loop-high l = l.decoded.items ≡ map (λ pair. byte (slice_index pair 0) (slice_index pair 1)) (take l.high-index l.pairs)
