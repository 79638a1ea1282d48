-- Who goes first where two routes meet, as judging holds it: a mark for each stop and each carrier.
use Rattle.std.specs.Prelude.{◌≡◌, ℕ, ◌+◌, ◌*◌, ◌<◌, ◌≤◌, Bool, true, false, List, length, Some, None, Option, ◌≢◌, slice_index_or}
use Rattle.sheet.specs.declared.records.Precedence.{Precedence}
use Rattle.sheet.specs.declared.records.Stop.{Stop}
use Rattle.sheet.specs.Records.{no_precedence, no_stop}
use Rattle.judge.specs.declared.legs.Leg.{Leg}
use Rattle.judge.specs.Legs.{next_after}

-- whether the carrier of stop s is marked as going first there, before carrier c
abbrev pub leads_at : List Bool → ℕ → ℕ → Bool
leads_at leads s c = slice_index_or leads (s * 64 + c) false

-- exactly the first n precedences are marked
pub record Leads (precedences : List Precedence) (n : ℕ) (leads : List Bool) : Type 0 where
  pub marked : (k : ℕ) → k < n → leads_at leads (slice_index_or precedences k no_precedence).first_stop (slice_index_or precedences k no_precedence).second ≡ true
  pub meant : (s c : ℕ) → c < 64 → leads_at leads s c ≡ true → (k : ℕ) × (k < n) × ((slice_index_or precedences k no_precedence).first_stop ≡ s) × ((slice_index_or precedences k no_precedence).second ≡ c)

module _ (stops : List Stop) (leads : List Bool) where
  -- two carriers stop at one place
  abbrev pub Meet : ℕ → ℕ → Type 0
  Meet s t = ((slice_index_or stops t no_stop).place ≡ (slice_index_or stops s no_stop).place) × ((slice_index_or stops t no_stop).carrier ≢ (slice_index_or stops s no_stop).carrier)

  -- and none of them is marked as going first
  pub record OpenMeeting (s t : ℕ) : Type 0 where
    pub later : s < t
    pub within : t < length stops
    pub meet : Meet s t
    pub not_first : leads_at leads s (slice_index_or stops t no_stop).carrier ≡ false
    pub not_second : leads_at leads t (slice_index_or stops s no_stop).carrier ≡ false

-- two stops set head on, as judging finds them: at a precedence, whose first carrier goes from stop t to the place of
-- stop s, from which the second carrier comes, and the second carrier is marked as going first at s
pub record OpposedBy (stops : List Stop) (legs : List Leg) (leads : List Bool) (p : Precedence) (s t : ℕ) : Type 0 where
  pub from_first : p.first_stop ≡ t
  pub from_second : (slice_index_or stops p.second_stop no_stop).previous ≡ Some s
  pub target : ℕ
  pub goes : next_after legs t ≡ Some target
  pub arrives : (slice_index_or stops target no_stop).place ≡ (slice_index_or stops s no_stop).place
  pub first_there : leads_at leads s p.first ≡ true

-- the pair (a, b) is not above the pair (s, t), by the first number and then by the second
abbrev pub NotAbove : ℕ × ℕ → ℕ → ℕ → Type 0
NotAbove p s t = (p.0 ≤ s) × (p.0 ≡ s → p.1 ≤ t)

module _ (stops : List Stop) (legs : List Leg) (leads : List Bool) (precedences : List Precedence) where
  -- set head on at one of the first n precedences
  abbrev pub OpposedBelow : ℕ → ℕ → ℕ → Type 0
  OpposedBelow n s t = (k : ℕ) × (k < n) × OpposedBy stops legs leads (slice_index_or precedences k no_precedence) s t

  -- the lowest pair that is set head on at one of the first n precedences, if any
  abbrev pub LowestOpposed : ℕ → Option (ℕ × ℕ) → Type 0
  LowestOpposed n None = (s t : ℕ) → ¬ OpposedBelow n s t
  LowestOpposed n (Some p) = (p.0 < 1024) × (p.1 < 1024) × OpposedBelow n p.0 p.1 × ((s t : ℕ) → OpposedBelow n s t → NotAbove p s t)
