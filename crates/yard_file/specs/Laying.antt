-- What the lines of a yard's file say, and what comes of laying them.
use Rattle.std.specs.Prelude.{◌≡◌, ℕ, List, [], ◌∷◌, ◌++◌, Some, None, Ok, Err, Option, Result}
use Rattle.lane_yard.specs.Faults.{Fault, Lawful}
use Rattle.lane_yard.specs.Meaning.{lanes_of, records_of}
use Rattle.lane_yard.specs.Records.{LanesOf, lane}
use Rattle.lane_yard.specs.declared.lane.Lane.{Lane}
use Rattle.lane_yard.specs.declared.yards.LaneYard.{LaneYard}
use Rattle.lines.specs.Reading.{reading}
use Rattle.lines.specs.declared.entry.Entry.{Entry}
use Rattle.lines.specs.declared.entry.Entry.TheVariants.{Carrier, Stop, Precedence, Strike, Judge, Lane as LaneEntry}
use Rattle.lines.specs.declared.entry.Input.TheVariants.{Yard}
use Rattle.lines.specs.declared.refusal.LineRefusal.{LineRefusal}
use Rattle.yard_file.specs.declared.refusal.FileRefusal.{FileRefusal}
use Rattle.yard_file.specs.declared.refusal.FileRefusal.TheVariants.{Line, Lay}

-- the lane that a line says; a line that cannot be read says none, and no line of a yard says anything else
abbrev pub lane_said : Result Entry LineRefusal → List Lane
lane_said (Ok (Carrier start goal)) = []
lane_said (Ok (Stop carrier place)) = []
lane_said (Ok (Precedence first second place)) = []
lane_said (Ok (Strike first second place)) = []
lane_said (Ok (Judge rule)) = []
lane_said (Ok (LaneEntry from to time)) = lane from to time ∷ []
lane_said (Err why) = []

-- the lanes that lines say, in their order
abbrev pub lanes_said : List (List ℕ) → List Lane
lanes_said [] = []
lanes_said (line ∷ lines) = lane_said (reading Yard line) ++ lanes_said lines

-- the refusal of this line, or else that of the first bad one of the others
abbrev pub refused_before : Result Entry LineRefusal → Option LineRefusal → Option LineRefusal
refused_before (Ok entry) others = others
refused_before (Err why) others = Some why

-- the refusal of the first line that cannot be read, if there is one
abbrev pub first_refusal : List (List ℕ) → Option LineRefusal
first_refusal [] = None
first_refusal (line ∷ lines) = refused_before (reading Yard line) (first_refusal lines)

-- a refusal that is kept already, or else that of a line
abbrev pub earlier : Option LineRefusal → Result Entry LineRefusal → Option LineRefusal
earlier (Some why) read = Some why
earlier None (Ok entry) = None
earlier None (Err why) = Some why

-- a bad line anywhere refuses the file; else the lanes are laid, all of them, or their first fault refuses it. A file
-- that is refused leaves the old yard
abbrev pub FileLaid : List (List ℕ) → LaneYard → LaneYard → Result (Unit {0}) FileRefusal → Type 0
FileLaid lines yard yard' (Ok done) = (first_refusal lines ≡ None) × Lawful (lanes_said lines) × (records_of yard' ≡ lanes_said lines) × LanesOf (lanes_said lines) (lanes_of yard')
FileLaid lines yard yard' (Err (Line why)) = (first_refusal lines ≡ Some why) × (yard' ≡ yard)
FileLaid lines yard yard' (Err (Lay why)) = (first_refusal lines ≡ None) × Fault (lanes_said lines) why × (yard' ≡ yard)
