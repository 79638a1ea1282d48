-- One line more of a file.
use Rattle.std.proofs.Common.{◌≡◌, ℕ, ◌<◌, ◌≤◌, List, [], ◌∷◌, ◌++◌, length, take, Ok, Option, Result, sym, refl, arith, rules}
use Rattle.std.proofs.lemmas.Grind.{common_steps}
use Rattle.std.proofs.lemmas.List.{append_assoc, append-nil}
use Rattle.yard_file.specs.Lines.{lines_of}
use Rattle.yard_file.specs.Splits.{Split}
use Rattle.yard_file.proofs.Split.{split_lines}
use Rattle.lane_yard.specs.declared.lane.Lane.{Lane}
use Rattle.lines.specs.Reading.{reading}
use Rattle.lines.specs.declared.entry.Entry.{Entry}
use Rattle.lines.specs.declared.entry.Entry.TheVariants.{Lane as LaneEntry}
use Rattle.lines.specs.declared.entry.Input.TheVariants.{Yard}
use Rattle.lines.specs.declared.refusal.LineRefusal.{LineRefusal}
use Rattle.yard_file.specs.Files.{Ended}
use Rattle.yard_file.specs.Laying.{earlier, first_refusal, lane_said, lanes_said, refused_before}
use Rattle.yard_file.specs.declared.files.YardFile.{YardFile}

-- what is left out does not come back
more_taken : {X : Type 0} (n : ℕ) (xs kept kept' more : List X) → kept' ≡ take n (kept ++ more) → kept ≡ take n xs → kept' ≡ take n (xs ++ more)
more_taken n xs kept kept' more next is = grind (arith, common_steps)

-- one lane more, after lanes that are kept up to the limit
pub kept_pushed : {X : Type 0} (xs kept kept' : List X) (x : X) → kept' ≡ take 8193 (kept ++ x ∷ []) → kept ≡ take 8193 xs → kept' ≡ take 8193 (xs ++ x ∷ [])
kept_pushed xs kept kept' x more is = more_taken 8193 xs kept kept' (x ∷ []) more is

pub kept_none : {X : Type 0} (xs : List X) → take 8193 xs ≡ take 8193 (xs ++ [])
kept_none xs = simp append-nil

-- an entry that is no lane says none
pub none_said : (entry : Entry) → ((from to time : ℕ) → ¬ (entry ≡ LaneEntry from to time)) → lane_said (Ok entry) ≡ []
none_said entry no_lane = search rules

refusal_more : (read more : Result Entry LineRefusal) (rest next : Option LineRefusal) → next ≡ earlier rest more → refused_before read next ≡ earlier (refused_before read rest) more
refusal_more read more rest next e = search rules

first_refusal_more : (ended : List (List ℕ)) (line : List ℕ) → first_refusal (ended ++ line ∷ []) ≡ earlier (first_refusal ended) (reading Yard line)
first_refusal_more [] line = search rules
first_refusal_more (l ∷ ls) line = refusal_more (reading Yard l) (reading Yard line) _ _ (first_refusal_more ls line)

lanes_said_more : (ended : List (List ℕ)) (line : List ℕ) → lanes_said (ended ++ line ∷ []) ≡ lanes_said ended ++ lane_said (reading Yard line)
lanes_said_more [] line = append-nil (lane_said (reading Yard line))
lanes_said_more (l ∷ ls) line = rw (lanes_said_more ls line) (sym (append_assoc (lane_said (reading Yard l)) (lanes_said ls) (lane_said (reading Yard line))))

-- what is noted of a line more
pub ended_more : (file file' : YardFile) (ended : List (List ℕ)) (line : List ℕ) (read : Result Entry LineRefusal) → read ≡ reading Yard line → ((lanes : List Lane) → file.lanes ≡ take 8193 lanes → file'.lanes ≡ take 8193 (lanes ++ lane_said read)) → file'.refusal ≡ earlier file.refusal read → Ended file ended → Ended file' (ended ++ line ∷ [])
ended_more file file' ended line read is lanes refusal before = record {
  lanes = rw (lanes (lanes_said ended) before.lanes, is, lanes_said_more ended line) refl;
  refusal = rw (refusal, is, before.refusal, first_refusal_more ended line) refl;
}

-- the last line lacks its newline, or there is none
pub all_lines_more : (bytes : List ℕ) (ended : List (List ℕ)) (begun : List ℕ) → Split bytes ended begun → 0 < length begun → ended ++ begun ∷ [] ≡ lines_of bytes
all_lines_more bytes ended begun s h = grind (arith, split_lines bytes ended begun s)

pub all_lines : (bytes : List ℕ) (ended : List (List ℕ)) (begun : List ℕ) → Split bytes ended begun → length begun ≤ 0 → ended ≡ lines_of bytes
all_lines bytes ended begun s h = grind (arith, common_steps, split_lines bytes ended begun s)
