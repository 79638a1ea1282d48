use Rattle.std.proofs.Common.{◌≡◌, ◌≢◌, ◌==◌, ◌-◌, ◌≤◌, length, get_or, take, rules, arith}
use Rattle.std.proofs.lemmas.Fn.{always_returns_same}
use Rattle.bench_export.proofs.Copies.{Part, at_first, last_begun, line_copied, line_in_part, part_last, stays_within, text_copied}
use Rattle.bench_export.proofs.text.copy.Goals as goal

pub loop-line-init : goal.loop-line-init
loop-line-init c = search (rules, at_first)

pub loop-line-preserved-in-10-1 : goal.loop-line-preserved-in-10-1
loop-line-preserved-in-10-1 c =
    let steps = c.in-Some.ensures.steps in
    let found = steps.1.2 (λ b. b == 10) (always_returns_same _ _ _ (λ a r f called. search rules)) in
    let text = c.in-Some.line.now in
    let part : Part c.loop-line.line-iterator.rest.now text c.next.new.self.rest.now =
    record { whole = steps.0; some = steps.2; end = steps.1.0; size = steps.1.1; before = found.1.0; here = found.1.1 } in
    let newline : get_or text (length text - 1) 0 ≡ 10 = search rules in
    let ends = line_in_part part c.in-10.len_at_least newline in
    line_copied c.loop-line.invariant c.next.new.self.rest.now (take (length text - 1) text) c.copy_line-at.new.page c.copy_line-at.result ends.0 ends.1 c.loop-line.auto.page c.copy_line-at.ensures.after c.copy_line-at.ensures.position

pub loop-line-preserved : goal.loop-line-preserved
loop-line-preserved c =
    let steps = c.in-Some.ensures.steps in
    let found = steps.1.2 (λ b. b == 10) (always_returns_same _ _ _ (λ a r f called. search rules)) in
    let text = c.in-Some.line.now in
    let part : Part c.loop-line.line-iterator.rest.now text c.next.new.self.rest.now =
    record { whole = steps.0; some = steps.2; end = steps.1.0; size = steps.1.1; before = found.1.0; here = found.1.1 } in
    let some : 1 ≤ length text = omega (arith, part.size, part.some) in
    let other : get_or text (length text - 1) 0 ≢ 10 = search rules in
    let last = part_last part some other in
    last_begun c.loop-line.invariant c.next.new.self.rest.now text part last.0 last.1

pub copy_line-at-requires : goal.copy_line-at-requires
copy_line-at-requires c = stays_within c.loop-line.invariant c.loop-line.auto.page

pub returns-clause-copied : goal.returns-clause-copied
returns-clause-copied c = text_copied c.loop-line.invariant (search rules)

pub returns-clause-within : goal.returns-clause-within
returns-clause-within c = stays_within c.loop-line.invariant c.loop-line.auto.page
