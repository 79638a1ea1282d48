-- The lanes of a rising list are its records.
use Rattle.std.proofs.Common.{◌≡◌, ℕ, suc, Bool, cond, List, [], ◌∷◌, Some, Option, sym, ap, ◌∙◌, ⊎_elim, arith}
use Rattle.std.specs.List.{Contains}
use Rattle.std.proofs.lemmas.List.{get_or_default}
use Rattle.lane_yard.specs.declared.lane.Lane.{Lane}
use Rattle.lane_yard.specs.Records.{lane, no_lane, time_of, Rising, Tells, LanesOf}
use Rattle.lane_yard.proofs.Times.{way}
use Rattle.lane_yard.proofs.Rises.{only}

-- what is answered stands in the list
has_lane : (xs : List Lane) (f t z : ℕ) → time_of xs f t ≡ Some z → Contains xs (lane f t z)
has_lane [] f t z e = grind arith
has_lane (l ∷ ls) f t z e =
    let C : Bool → Option ℕ = λ b. cond b (Some l.time) (time_of ls f t) in
    ⊎_elim
    (λ w.
    let s : Some l.time ≡ Some z = sym (ap C w.0) ∙ e in
    (0, omega arith, rw (w.1, w.2) (cc)))
    (λ w.
    let h = has_lane ls f t z (sym (ap C w) ∙ e) in
    (suc h.0, omega arith, h.2))
    (way l.from l.to f t)

pub lanes_listed : (xs : List Lane) → Rising xs → LanesOf xs (time_of xs)
unfolding Tells
lanes_listed xs r f t z = (
  has_lane xs f t z,
  λ h.
      let at = get_or_default xs h.0 no_lane (lane f t z) h.1 ∙ h.2 in
      only xs r f t h.0 h.1 (ap (λ (l : Lane). l.from) at) (ap (λ (l : Lane). l.to) at) ∙ ap (λ (l : Lane). Some l.time) at,
)
