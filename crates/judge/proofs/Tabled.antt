-- What judging's tables keep, from the sheet's own and from the yard's law.
use Rattle.std.proofs.Common.{◌≡◌, ℕ, ◌≤◌, List, length, IfSome, Some, Option, arith}
use Rattle.yard.specs.Limits.{LaneWithin}
use Rattle.sheet.specs.declared.records.Precedence.{Precedence}
use Rattle.sheet.specs.declared.records.Stop.{Stop}
use Rattle.sheet.specs.declared.sheets.Sheet.{Sheet}
use Rattle.sheet.specs.Sheets.{stops_of, precedences_of}
use Rattle.sheet.proofs.Facts as facts
use Rattle.judge.specs.declared.legs.Leg.{Leg}
use Rattle.judge.specs.Legs.{Legs, Stepped, Timely}
use Rattle.judge.specs.Routes.{Consistent}
use Rattle.judge.specs.Waits.{Ready}

-- the lists of a sheet fit together
pub consistent : (sheet : Sheet) (stops : List Stop) (precedences : List Precedence) → stops ≡ stops_of sheet → precedences ≡ precedences_of sheet → Consistent stops precedences
consistent sheet stops precedences e f =
    let few = facts.few_carriers sheet in
    rw (e, f) (record {
      few = facts.few_stops sheet;
      few_precedences = facts.few_precedences sheet;
      linked = sheet.linked;
      carried = λ k w. let l = sheet.carried k w in omega arith;
      lawful = λ k w. let l = sheet.lawful k w in (omega arith, omega arith, omega arith, omega arith);
    })

-- what a lane's time is known to be
in_limits : (o : Option ℕ) (from to d : ℕ) → IfSome o (λ time. LaneWithin from to time) → o ≡ Some d → (1 ≤ d) × (d ≤ 36000)
in_limits o from to d h e = grind arith

module _ (lanes : ℕ → ℕ → Option ℕ) (limited : (from to : ℕ) → IfSome (lanes from to) (λ time. LaneWithin from to time)) (stops : List Stop) (legs : List Leg) (known : Legs lanes stops (length stops) legs) where
  stepped : Stepped stops legs
  stepped t p h e = in_limits _ _ _ _ (limited _ _) (known.timed t p h e)

  timely : Timely legs
  timely s t e = let l = known.next s t e in stepped t s l.0 l.1

  -- the tables are ready once the legs are found
  pub ready : (ps : List Precedence) → Consistent stops ps → length legs ≡ length stops → Ready stops ps legs
  ready ps fits one_each = record {
    consistent = fits;
    one_each = one_each;
    inside = λ s t e. omega (arith, (known.next s t e).0);
    stepped = stepped;
    timely = timely;
  }
