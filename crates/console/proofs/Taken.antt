-- The lines of an input, taken one after another.
use Rattle.std.proofs.Common.{◌≡◌, ℕ, ◌<◌, ◌≤◌, ◌≢◌, List, [], ◌∷◌, ◌++◌, length, take, refl, sym, subst, rules}
use Rattle.std.proofs.lemmas.List.{append-nil, map-append}
use Rattle.std.proofs.KnownBytes.{Consumes-trans, Keeps-refl, Keeps-trans}
use Rattle.std.specs.Io.KnownBytes.{Consumes, Keeps}
use Rattle.lines.specs.Buffers.{kept, Keeps as KeepsLine}
use Rattle.lines.specs.declared.buffer.LineBuffer.{LineBuffer}
use Rattle.yard_file.specs.Lines.{lines_of}
use Rattle.yard_file.proofs.Split.{split_end, split_more}
use Rattle.yard_file.proofs.Noted.{all_lines, all_lines_more}
use Rattle.console.specs.Taking.{Known, Takes, given, TakesInTurn, HasTaken}

given_more : (lines : List (List ℕ)) (line : List ℕ) → given (lines ++ line ∷ []) ≡ given lines ++ take 65 line ∷ []
given_more lines line = map-append (λ l. take 65 l) lines (line ∷ [])

-- a read that gives no byte
pub consumes_end : (a b c : Known) (bytes part : List ℕ) (n : ℕ) → n ≡ 0 → Consumes a b bytes → Consumes b c (take n part) → Consumes a c bytes
consumes_end a b c bytes part n none first last =
    let P : ℕ → Type 0 = λ k. Consumes b c (take k part) in
    let Q : List ℕ → Type 0 = λ bs. Consumes a c bs in
    subst Q (append-nil bytes) (Consumes-trans a b c bytes [] first (subst P none last))

module _ {T : Type 0} (takes : Takes T) where
  -- one line more
  in_turn_more : (lines : List (List ℕ)) (line : List ℕ) (t s u : T) (held now before after : Known) → TakesInTurn takes lines t held s now → Keeps now before → takes s line before after u → TakesInTurn takes (lines ++ line ∷ []) t held u after
  in_turn_more [] line t s u held now before after h keeps took =
      let P : T → Type 0 = λ x. takes x line before after u in
      (u, before, after, Keeps-trans held now before h.1 keeps, subst P h.0 took, (refl, Keeps-refl after))
  in_turn_more (l ∷ ls) line t s u held now before after h keeps took =
      (h.0, h.1, h.2, h.3, h.4, in_turn_more ls line h.0 s u h.2 now before after h.5 keeps took)

  -- what the writer holds stays a while
  in_turn_kept : (lines : List (List ℕ)) (t s : T) (held now then : Known) → TakesInTurn takes lines t held s now → Keeps now then → TakesInTurn takes lines t held s then
  in_turn_kept [] t s held now then h keeps = (h.0, Keeps-trans held now then h.1 keeps)
  in_turn_kept (l ∷ ls) t s held now then h keeps = (h.0, h.1, h.2, h.3, h.4, in_turn_kept ls h.0 s h.2 now then h.5 keeps)

  -- before the first byte
  pub taken_none : (t : T) (held : Known) (line : LineBuffer) → kept line ≡ [] → HasTaken takes [] t held line t held
  taken_none t held line empty = record {
    ended = [];
    begun = [];
    split = record { whole = refl; each = search rules; rest = search rules };
    taken = (refl, Keeps-refl held);
    kept = empty;
  }

  -- a newline ends the line that has begun
  pub taken_end : (bytes : List ℕ) (t s u : T) (held now after : Known) (line line' : LineBuffer) → HasTaken takes bytes t held line s now → takes s (kept line) now after u → kept line' ≡ [] → HasTaken takes (bytes ++ 10 ∷ []) t held line' u after
  taken_end bytes t s u held now after line line' h took empty =
      let P : List ℕ → Type 0 = λ l. takes s l now after u in
      let Q : List (List ℕ) → Type 0 = λ ls. TakesInTurn takes ls t held u after in
      let more = in_turn_more (given h.ended) (take 65 h.begun) t s u held now now after h.taken (Keeps-refl now) (subst P h.kept took) in
      record {
        ended = h.ended ++ h.begun ∷ [];
        begun = [];
        split = split_end bytes h.ended h.begun h.split;
        taken = subst Q (sym (given_more h.ended h.begun)) more;
        kept = empty;
      }

  -- one byte more of it
  pub taken_more : (bytes : List ℕ) (b : ℕ) (t s : T) (held now : Known) (line line' : LineBuffer) → b ≢ 10 → ((begun : List ℕ) → KeepsLine line begun → KeepsLine line' (begun ++ b ∷ [])) → HasTaken takes bytes t held line s now → HasTaken takes (bytes ++ b ∷ []) t held line' s now
  taken_more bytes b t s held now line line' ne pushed h = record {
    ended = h.ended;
    begun = h.begun ++ b ∷ [];
    split = split_more bytes h.ended h.begun b ne h.split;
    taken = h.taken;
    kept = pushed h.begun h.kept;
  }

  pub taken_kept : (bytes : List ℕ) (t s : T) (held now then : Known) (line : LineBuffer) → HasTaken takes bytes t held line s now → Keeps now then → HasTaken takes bytes t held line s then
  taken_kept bytes t s held now then line h keeps = record {
    ended = h.ended;
    begun = h.begun;
    split = h.split;
    taken = in_turn_kept (given h.ended) t s held now then h.taken keeps;
    kept = h.kept;
  }

  -- at the end of the input: the last line lacks its newline, or there is none
  pub all_taken : (bytes : List ℕ) (t s : T) (held now : Known) (line : LineBuffer) (h : HasTaken takes bytes t held line s now) → length h.begun ≤ 0 → TakesInTurn takes (given (lines_of bytes)) t held s now
  all_taken bytes t s held now line h none =
      let Q : List (List ℕ) → Type 0 = λ ls. TakesInTurn takes (given ls) t held s now in
      subst Q (all_lines bytes h.ended h.begun h.split none) h.taken

  pub all_taken_more : (bytes : List ℕ) (t s u : T) (held now after : Known) (line : LineBuffer) (h : HasTaken takes bytes t held line s now) → 0 < length h.begun → takes s (kept line) now after u → TakesInTurn takes (given (lines_of bytes)) t held u after
  all_taken_more bytes t s u held now after line h some took =
      let P : List ℕ → Type 0 = λ l. takes s l now after u in
      let Q : List (List ℕ) → Type 0 = λ ls. TakesInTurn takes (given ls) t held u after in
      let R : List (List ℕ) → Type 0 = λ ls. TakesInTurn takes ls t held u after in
      let more = in_turn_more (given h.ended) (take 65 h.begun) t s u held now now after h.taken (Keeps-refl now) (subst P h.kept took) in
      subst Q (all_lines_more bytes h.ended h.begun h.split some) (subst R (sym (given_more h.ended h.begun)) more)
