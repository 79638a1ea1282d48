-- The book that tables stand for, and what their records keep.
use Rattle.std.specs.Prelude.{◌≡◌, ℕ, ◌<◌, List, [], ◌∷◌, ◌++◌, length, Some, slice_index_or, slice_set}
use Rattle.sheet.specs.declared.records.Carrier.{Carrier}
use Rattle.sheet.specs.declared.records.Stop.{Stop}
use Rattle.sheet.specs.declared.records.Precedence.{Precedence}
use Rattle.sheet.specs.declared.sheets.Tables.{Tables}
use Rattle.sheet.specs.Book.{Book}
use Rattle.sheet.specs.Records.{book_from, Numbered, gone_on, no_carrier, no_stop, no_precedence}

abbrev pub book_of : Tables → Book
book_of t = book_from t.carriers t.stops t.precedences

-- the numbers of stops that the records keep are right
abbrev pub NumberedTables : Tables → Type 0
NumberedTables t = Numbered t.carriers t.stops t.precedences

-- the carrier's record goes on to the stop, the stop's is new, and every other record stays
abbrev pub OnlyGoesOn : Tables → ℕ → ℕ → ℕ → Tables → Type 0
OnlyGoesOn t carrier stop place t' =
    let was = slice_index_or t.carriers carrier no_carrier in
    (t'.carriers ≡ slice_set t.carriers carrier (gone_on was stop place))
    × (t'.stops ≡ t.stops ++ record { carrier = carrier; place = place; previous = Some was.last_stop } ∷ [])
    × (t'.precedences ≡ t.precedences)

-- each carrier's latest stop is one of the n stops
abbrev pub CarriersInside : ℕ → List Carrier → Type 0
CarriersInside n xs = (k : ℕ) → k < length xs → (slice_index_or xs k no_carrier).last_stop < n

-- each stop's carrier is one of the n carriers
abbrev pub StopsInside : ℕ → List Stop → Type 0
StopsInside n xs = (k : ℕ) → k < length xs → (slice_index_or xs k no_stop).carrier < n

-- the stop before a stop on its route has a lower number
abbrev pub Linked : List Stop → Type 0
Linked xs = (k p : ℕ) → k < length xs → (slice_index_or xs k no_stop).previous ≡ Some p → p < k

-- each precedence's carriers are among the n carriers, and its stops among the m stops
abbrev pub PrecedencesInside : ℕ → ℕ → List Precedence → Type 0
PrecedencesInside n m xs = (k : ℕ) → k < length xs → ((slice_index_or xs k no_precedence).first < n) × ((slice_index_or xs k no_precedence).second < n) × ((slice_index_or xs k no_precedence).first_stop < m) × ((slice_index_or xs k no_precedence).second_stop < m)
