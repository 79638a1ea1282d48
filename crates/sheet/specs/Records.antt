-- What the records of a sheet mean, and what they keep besides the book.
use Rattle.std.specs.Prelude.{◌≡◌, ℕ, ◌<◌, List, map, Some, None}
use Rattle.std.specs.List.{slice_get}
use Rattle.sheet.specs.declared.records.Carrier.{Carrier}
use Rattle.sheet.specs.declared.records.Stop.{Stop}
use Rattle.sheet.specs.declared.records.Precedence.{Precedence}
use Rattle.sheet.specs.Book.{BookCarrier, BookStop, BookPrecedence, Book, Visits, Next, Starts, Latest}

-- what the book has of each record
abbrev pub book_carrier : Carrier → BookCarrier
book_carrier x = record { start = x.start; goal = x.goal }

abbrev pub book_stop : Stop → BookStop
book_stop x = record { carrier = x.carrier; place = x.place }

abbrev pub book_precedence : Precedence → BookPrecedence
book_precedence x = record { first = x.first; second = x.second; place = x.place }

-- the book of three lists of records
abbrev pub book_from : List Carrier → List Stop → List Precedence → Book
book_from carriers stops precedences = record { carriers = map book_carrier carriers; stops = map book_stop stops; precedences = map book_precedence precedences }

-- the numbers of stops that the records keep are right
pub record Numbered (carriers : List Carrier) (stops : List Stop) (precedences : List Precedence) : Type 0 where
  -- a carrier's latest stop, and its place
  pub latest : (c : ℕ) (x : Carrier) → slice_get carriers c ≡ Some x → Latest (book_from carriers stops precedences) c x.last_stop x.last_place
  -- the stop before a stop on its route; the first stop of a route has none
  pub earlier : (s p : ℕ) (x : Stop) → slice_get stops s ≡ Some x → x.previous ≡ Some p → p < s
  pub previous : (s p : ℕ) (x y : Stop) → slice_get stops s ≡ Some x → x.previous ≡ Some p → slice_get stops p ≡ Some y → Next (book_from carriers stops precedences) x.carrier p y.place s x.place
  pub starts : (s : ℕ) (x : Stop) → slice_get stops s ≡ Some x → x.previous ≡ None → Starts (book_from carriers stops precedences) x.carrier s x.place
  -- the two carriers' stops at the place of a precedence
  pub first_stop : (k : ℕ) (x : Precedence) → slice_get precedences k ≡ Some x → Visits (book_from carriers stops precedences) x.first_stop x.first x.place
  pub second_stop : (k : ℕ) (x : Precedence) → slice_get precedences k ≡ Some x → Visits (book_from carriers stops precedences) x.second_stop x.second x.place

-- a carrier after a further stop
abbrev pub gone_on : Carrier → ℕ → ℕ → Carrier
gone_on x stop place = record { start = x.start; goal = x.goal; last_stop = stop; last_place = place }

-- what is read past the end of a list
abbrev pub no_carrier : Carrier
no_carrier = record { start = 0; goal = 0; last_stop = 0; last_place = 0 }

abbrev pub no_stop : Stop
no_stop = record { carrier = 0; place = 0; previous = None }

abbrev pub no_precedence : Precedence
no_precedence = record { first = 0; second = 0; place = 0; first_stop = 0; second_stop = 0 }
