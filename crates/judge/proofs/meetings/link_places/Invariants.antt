use Rattle.std.proofs.Common.{◌≡◌, length}
use Rattle.judge.specs.Chains.{ChainedFrom}
use Rattle.judge.proofs.meetings.link_places.Given as goal

abbrev pub invariant-loop-s : goal.invariant-loop-s
invariant-loop-s l = (length l.latest ≡ 4096) × ChainedFrom l.stops l.s l.later l.latest
