-- What comes of lags that are worked out: the earliest arrivals on the timetable, or a ring on the ring page.
use Rattle.std.specs.Prelude.{◌≡◌, ℕ, ◌-◌, ◌*◌, ◌≤◌, List, ◌++◌, length, drop, ℤ, Ok, Err, Result, slice_index}
use Rattle.lags.specs.Ways.{Ring, Least}
use Rattle.judge.specs.declared.refusal.JudgeRefusal.{JudgeRefusal}
use Rattle.judge.specs.declared.refusal.JudgeRefusal.TheVariants.{PageTooShort, NotAtGoal, NoLane, Undecided, HeadOn, Ring as RingOf}

-- the two pages before and after
pub record Pages : Type 0 where
  pub timetable : List ℕ
  pub ring : List ℕ
  pub timetable_after : List ℕ
  pub ring_after : List ℕ

-- a page whose front is new and whose rest stands
abbrev pub Front : List ℕ → List ℕ → List ℕ → Type 0
Front before new after = after ≡ new ++ drop (length new) before

module _ (Between : ℕ → ℕ → ℤ → Type 0) (n most : ℕ) (p : Pages) where
  -- the first n numbers of the timetable are the least arrivals that keep every lag
  pub record TimesWritten : Type 0 where
    pub times : List ℕ
    pub one_each : length times ≡ n
    pub written : Front p.timetable times p.timetable_after
    pub least : Least Between (λ s. slice_index times s)
    pub low : (s : ℕ) → slice_index times s ≤ (n - 1) * most
    pub ring_stands : p.ring_after ≡ p.ring

  -- the first k numbers of the ring page are a ring
  pub record RingWritten (k : ℕ) : Type 0 where
    pub stops : List ℕ
    pub long : length stops ≡ k
    pub ring : Ring Between stops
    pub written : Front p.ring stops p.ring_after
    pub timetable_stands : p.timetable_after ≡ p.timetable

  abbrev pub Settles : Result ℕ JudgeRefusal → Type 0
  Settles (Ok m) = (m ≡ n) × TimesWritten
  Settles (Err PageTooShort) = ⊥
  Settles (Err (NotAtGoal carrier)) = ⊥
  Settles (Err (NoLane stop)) = ⊥
  Settles (Err (Undecided stop later)) = ⊥
  Settles (Err (HeadOn stop other)) = ⊥
  Settles (Err (RingOf k)) = RingWritten k

-- as many numbers as are answered are on the page, of so many numbers
abbrev pub Within : ℕ → ℕ → Result ℕ JudgeRefusal → Type 0
Within timetable ring (Ok n) = n ≤ timetable
Within timetable ring (Err PageTooShort) = Unit {0}
Within timetable ring (Err (NotAtGoal carrier)) = Unit {0}
Within timetable ring (Err (NoLane stop)) = Unit {0}
Within timetable ring (Err (Undecided stop later)) = Unit {0}
Within timetable ring (Err (HeadOn stop other)) = Unit {0}
Within timetable ring (Err (RingOf k)) = k ≤ ring
