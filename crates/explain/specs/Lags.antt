-- What a lag says: where it comes from on the sheet and in the yard.
use Rattle.std.specs.Prelude.{◌≡◌, ℕ, ◌<◌, ◌⊎◌, length, Some, Option, slice_index_or}
use Rattle.sheet.specs.declared.records.Precedence.{Precedence}
use Rattle.sheet.specs.Records.{no_precedence}
use Rattle.explain.specs.Judged.{Both, stop_at}
use Rattle.explain.specs.Lists.{Lists}
use Rattle.explain.specs.declared.lag.Lag.{Lag}
use Rattle.explain.specs.declared.lag.Lag.TheVariants.{Travel, Waiting}
use Rattle.yard.specs.Rules.{gaps_of}
use Rattle.yard.specs.declared.rules.FixedGap.{FixedGap}
use Rattle.yard.specs.declared.rules.Rule.{Rule}

abbrev precedence_at : Lists → ℕ → Precedence
precedence_at lists k = slice_index_or lists.precedences k no_precedence

module _ (lanes : ℕ → ℕ → Option ℕ) (rule : Rule FixedGap) (lists : Lists) (s t : ℕ) where
  -- stop t follows stop s on a route, and the lag is the travel time of the lane between their places
  pub record Travels (lag : Lag) : Type 0 where
    pub both : Both lists s t
    pub follows : (stop_at lists t).previous ≡ Some s
    pub time : ℕ
    pub lane : lanes (stop_at lists s).place (stop_at lists t).place ≡ Some time
    pub is : lag ≡ Travel (stop_at lists t).carrier (stop_at lists s).place (stop_at lists t).place time

  -- precedence k is that of two carriers at the place of stop p and of stop t, and stop s follows stop p: the lag is by
  -- the lane from the place to that of stop s, and its gap
  pub record Waits (lag : Lag) : Type 0 where
    pub p : ℕ
    pub both : Both lists p s
    pub follows : (stop_at lists s).previous ≡ Some p
    pub k : ℕ
    pub stands : k < length lists.precedences
    pub first_stop : (precedence_at lists k).first_stop ≡ p
    pub second_stop : (precedence_at lists k).second_stop ≡ t
    pub time : ℕ
    pub lane : lanes (stop_at lists p).place (stop_at lists s).place ≡ Some time
    pub is : lag ≡ Waiting (precedence_at lists k).first (precedence_at lists k).second (stop_at lists p).place (stop_at lists s).place (gaps_of (λ g. g.ticks) rule (stop_at lists p).place (stop_at lists s).place time) time

  -- this is a lag from stop s to stop t
  abbrev pub LagBetween : Lag → Type 0
  LagBetween lag = Travels lag ⊎ Waits lag
