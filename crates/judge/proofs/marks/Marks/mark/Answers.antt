use Rattle.std.proofs.Common.{◌≡◌, ℕ, Bool, false, List, replicate, arith}
use Rattle.sheet.specs.declared.records.Precedence.{Precedence}
use Rattle.judge.specs.Meetings.{Leads}
use Rattle.judge.proofs.Alike.{all_alike}
use Rattle.judge.proofs.marks.Marks.mark.Goals as goal

-- where nothing is marked
leads_none : (ps : List Precedence) (leads : List Bool) (n : ℕ) → leads ≡ replicate n false → Leads ps 0 leads
leads_none ps leads n none = record {
  marked = λ k h. absurd (omega arith);
  meant = λ s c small h. absurd (grind (arith, all_alike {X = Bool}));
}

pub loop-precedence-init : goal.loop-precedence-init
loop-precedence-init c = leads_none _ _ 65536 c.requires
