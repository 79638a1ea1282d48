-- One more stop, while the legs are found.
use Rattle.std.proofs.Common.{◌≡◌, ℕ, ◌+◌, ◌<◌, List, length, slice_index_or, set, Some, None, Option, arith}
use Rattle.std.proofs.lemmas.Grind.{elements}
use Rattle.sheet.specs.declared.records.Stop.{Stop}
use Rattle.sheet.specs.Records.{no_stop}
use Rattle.judge.specs.declared.legs.Leg.{Leg}
use Rattle.judge.specs.Legs.{Previous, lane_between, Legs, next_after, time_to}

module _ (lanes : ℕ → ℕ → Option ℕ) (stops : List Stop) (n : ℕ) (legs : List Leg) (known : Legs lanes stops n legs) where
  -- a route's first stop
  pub legs_kept : (legs' : List Leg) → legs' ≡ legs → (slice_index_or stops n no_stop).previous ≡ None → Legs lanes stops (n + 1) legs'
  legs_kept legs' same none = record {
    timed = λ t p h e. grind (arith, known.timed t p);
    next = λ s t e. grind (arith, known.next s t);
    some_next = λ t p h e. grind (arith, known.some_next t p);
  }

  -- a stop n with one before it, p
  pub legs_set : (legs' : List Leg) (x y : Leg) (p d : ℕ) → legs' ≡ set (set legs n x) p y → x.time ≡ d → x.next ≡ next_after legs n → y.time ≡ time_to (set legs n x) p → y.next ≡ Some n → Previous lanes stops n p → Some d ≡ lane_between lanes stops p n → n < length legs → p < n → Legs lanes stops (n + 1) legs'
  legs_set legs' x y p d same x_time x_next y_time y_next comes lane in_legs before = record {
    timed = λ t q h e. grind (arith, elements, known.timed t q);
    next = λ s t e. grind (arith, elements, known.next s t);
    some_next = λ t q h e none. grind (arith, elements, known.some_next t q);
  }
