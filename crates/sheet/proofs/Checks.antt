-- What checks in a row decide.
use Rattle.std.proofs.Common.{ℕ, None, Some, Option, refl, inl, inr, MatchOption}
use Rattle.std.specs.Option.{ok_or}
use Rattle.sheet.specs.declared.refusal.EntryRefusal.{EntryRefusal}
use Rattle.sheet.specs.Book.{Book}
use Rattle.sheet.specs.Calls.{Accepts, CheckedBy, pair_checks}
use Rattle.sheet.specs.Calls.Checks.{no_more, check}

-- two carriers, and then a search for what has to be there
pub checked_by_search : (b : Book) (first second : ℕ) → Accepts (pair_checks b first second no_more) → (Found : ℕ → Type 0) (refusal : EntryRefusal) (r : Option ℕ) → MatchOption r (¬ ((k : ℕ) × Found k)) Found → CheckedBy (pair_checks b first second (check (¬ ((k : ℕ) × Found k)) refusal no_more)) (ok_or r refusal)
checked_by_search b first second pair Found refusal None none = inr (pair.0, inr (pair.1.0, inl (none, refl)))
checked_by_search b first second pair Found refusal (Some k) found = (pair.0, (pair.1.0, (λ none. none (k, found), tt)))
