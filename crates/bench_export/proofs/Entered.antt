-- Lists of calls that are entered one after another.
use Rattle.std.proofs.Common.{ℕ, ◌+◌, ◌<◌, List, [], ◌∷◌, ◌++◌, length, map, take, drop, get_or, refl, sym, ap, ◌∙◌}
use Rattle.std.proofs.lemmas.List.{take_more, drop_more, take-append-drop, map-append}
use Rattle.sheet.specs.Book.{Book, opened}
use Rattle.sheet.specs.Calls.{Call, Accepts, Changes, Refuses, checks}
use Rattle.sheet.specs.declared.refusal.EntryRefusal.{EntryRefusal}
use Rattle.bench_export.specs.Entering.{AllEntered, FirstRefused}
use Rattle.bench_export.specs.Numbers.{call_in}

-- one call more
all_more : (b : Book) (calls : List Call) (m : Book) (call : Call) (b' : Book) → AllEntered b calls m → Accepts (checks m call) → Changes m call b' → AllEntered b (calls ++ call ∷ []) b'
all_more b [] m call b' same accepts changes = rw (← same) (b', accepts, changes, refl)
all_more b (first ∷ calls) m call b' (next, accepted, changed, rest) accepts changes =
    (next, accepted, changed, all_more next calls m call b' rest accepts changes)

module _ (entries : List (List ℕ)) (i : ℕ) (d : List ℕ) (here : i < length entries) (m : Book) (all : AllEntered opened (map call_in (take i entries)) m) where
  -- the entry at i is accepted
  pub entered_more : (b' : Book) → Accepts (checks m (call_in (get_or entries i d))) → Changes m (call_in (get_or entries i d)) b' → AllEntered opened (map call_in (take (i + 1) entries)) b'
  entered_more b' accepts changes =
      rw (take_more entries i d here, map-append call_in (take i entries) (get_or entries i d ∷ []))
      (all_more opened (map call_in (take i entries)) m (call_in (get_or entries i d)) b' all accepts changes)

  -- the entry at i is refused
  pub refused_at : (refusal : EntryRefusal) → Refuses (checks m (call_in (get_or entries i d))) refusal → FirstRefused opened (map call_in entries) refusal
  refused_at refusal refuses = record {
    before = map call_in (take i entries);
    call = call_in (get_or entries i d);
    after = map call_in (drop (i + 1) entries);
    whole = ap (map call_in) (sym (take-append-drop i entries) ∙ ap (λ (rest : List (List ℕ)). take i entries ++ rest) (drop_more entries i d here)) ∙ map-append call_in (take i entries) (get_or entries i d ∷ drop (i + 1) entries);
    book = m;
    entered = all;
    refused = refuses;
  }
