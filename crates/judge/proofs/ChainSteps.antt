-- One more stop, while the stops are linked by place, and one more link, while they are followed.
use Rattle.std.proofs.Common.{◌≡◌, ℕ, ◌+◌, ◌-◌, ◌<◌, Bool, List, length, slice_index_or, set, replicate, Some, None, unwrap_or, Option, ⊎_elim, arith}
use Rattle.std.proofs.lemmas.Grind.{elements}
use Rattle.std.proofs.lemmas.Bool.{cases_eq}
use Rattle.sheet.specs.declared.records.Stop.{Stop}
use Rattle.judge.specs.Chains.{ChainedFrom, LowestFrom, part_of}
use Rattle.judge.specs.Meetings.{OpenMeeting}
use Rattle.judge.proofs.Alike.{all_alike}

module _ (stops : List Stop) where
  pub chained_more : (s n : ℕ) (later latest : List (Option ℕ)) → s ≡ n + 1 → n < length stops → length later ≡ length stops → length latest ≡ 4096 → ChainedFrom stops s later latest → ChainedFrom stops n (set later n (slice_index_or latest (part_of stops n) None)) (set latest (part_of stops n) (Some n))
  chained_more s n later latest next within long_later long_latest before =
      let p = part_of stops n in
      let small : p < 4096 = omega arith in
      record {
        follows = λ r low h. ⊎_elim
            (λ e. grind (arith, elements, before.lowest p small))
            (λ ne. grind (arith, elements, before.follows r))
            (cases_eq r n);
        lowest = λ b h. record {
          within = λ t q. grind (arith, elements, (before.lowest b h).within t);
          skips = λ t u q low less e. grind (arith, elements, (before.lowest b h).skips t u);
          none = λ q u low inside e. grind (arith, elements, (before.lowest b h).none);
        };
      }

  -- before the first stop is linked
  pub chained_none : (later : List (Option ℕ)) → ChainedFrom stops (length stops) later (replicate 4096 None)
  chained_none later = record {
    follows = λ r low h. absurd (omega arith);
    lowest = λ b h. rw (all_alike {X = Option ℕ} 4096 b None) (record { within = λ t q. (cc); skips = λ t u q. (cc); none = λ q u low inside e. absurd (omega arith) });
  }

  module _ (leads : List Bool) (s : ℕ) where
    -- what is left to look at for a meeting with the stop s: the stop o and those that it is linked to
    pub record Left (o : Option ℕ) : Type 0 where
      pub within : (t : ℕ) → o ≡ Some t → (s < t) × (t < length stops) × (part_of stops t ≡ part_of stops s)
      pub none_below : (t k : ℕ) → o ≡ Some t → k < t → ¬ OpenMeeting stops leads s k
      pub none_at_all : o ≡ None → (k : ℕ) → ¬ OpenMeeting stops leads s k

    -- nothing is open below `low`, from which o is the lowest stop that may meet s
    left_from : (low : ℕ) (o : Option ℕ) → s < low → LowestFrom stops low (part_of stops s) o → ((k : ℕ) → k < low → ¬ OpenMeeting stops leads s k) → Left o
    left_from low o above next below = record {
      within = λ t q. grind (arith, next.within t);
      none_below = λ t k q less m. grind (arith, below k, next.skips t k, m.meet.0);
      none_at_all = λ q k m. grind (arith, below k, next.none q k, m.within, m.meet.0);
    }

    pub left_first : (o : Option ℕ) → LowestFrom stops (s + 1) (part_of stops s) o → Left o
    left_first o next = left_from (s + 1) o (omega arith) next (λ k h m. let l = m.later in omega arith)

    pub left_more : (o o' : Option ℕ) (t : ℕ) → o ≡ Some t → Left o → ¬ OpenMeeting stops leads s t → LowestFrom stops (t + 1) (part_of stops t) o' → Left o'
    left_more o o' t q left closed next =
        let w = left.within t q in
        left_from (t + 1) o' (omega (arith, w.0)) (rw w.2 at next) (λ k h m. grind (arith, closed, left.none_below t k q, m))

-- what is left falls with each link
pub link_smaller : (n t : ℕ) (o o' : Option ℕ) → o ≡ Some t → t < n → ((u : ℕ) → o' ≡ Some u → t < u) → n - unwrap_or o' n < n - unwrap_or o n
link_smaller n t o None e h above = grind arith
link_smaller n t o (Some u) e h above = grind (arith, above u)
