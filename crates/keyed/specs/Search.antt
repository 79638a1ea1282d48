-- What a search by key finds, over records of any type and keys of any type.
use Rattle.std.specs.Prelude.{◌≡◌, ℕ, ◌<◌, List, length, ◌≢◌}
use Rattle.std.specs.List.{HoldsAt, AllWithin}

module _ {R K : Type 0} (key : R → K) (wanted : K) where
  -- no record below the index has the key
  abbrev pub NoneBelow : List R → ℕ → Type 0
  NoneBelow records i = AllWithin (λ x. key x ≢ wanted) records 0 i

  -- no record has the key
  abbrev pub Nowhere : List R → Type 0
  Nowhere records = NoneBelow records (length records)

  -- the record at the index has the key, and none before it has
  abbrev pub First : List R → ℕ → Type 0
  First records i = (i < length records) × HoldsAt (λ x. key x ≡ wanted) records i × NoneBelow records i
