use Rattle.std.proofs.Common.{◌≡◌, ℕ, ◌*◌, List, ◌++◌, length, take, drop}
use Rattle.std.specs.List.{All, flat_map}
use Rattle.lines.specs.Digits.{digits}
use Rattle.replies.proofs.list.write_numbers.Given as goal

abbrev pub invariant-loop-number : goal.invariant-loop-number
invariant-loop-number g l =
    record {
      at : l.at ≡ 2 * length (flat_map g.N.Listed.bytes (take l.number-index l.numbers));
      part : l.part ≡ digits (flat_map g.N.Listed.bytes (take l.number-index l.numbers)) ++ drop l.at l.initial.part;
      each : All (λ x. (rest : List ℕ) → g.N.Listed.front (g.N.Listed.bytes x ++ rest) ≡ x) (take l.number-index l.numbers);
    }
