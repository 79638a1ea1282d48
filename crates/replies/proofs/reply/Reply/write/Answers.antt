use Rattle.std.proofs.Common.{◌≡◌, [], ◌∷◌, length, get_or, sym, ap, ◌∙◌, arith, rules}
use Rattle.replies.specs.Answers.{accepted, passed, ring, refused, bytes_of}
use Rattle.replies.specs.Replies.{answer_of}
use Rattle.replies.proofs.Understood.{few, accepted_back, passed_back, ring_back, refused_back, told}
use Rattle.replies.proofs.reply.Reply.write.Goals as goal

pub returns-in-Accepted-clause-back : goal.returns-in-Accepted-clause-back
returns-in-Accepted-clause-back c =
    let number = c.in-Accepted.number in
    let b = c.to_be_bytes.result in
    let made : 0 ∷ get_or b 0 0 ∷ get_or b 1 0 ∷ [] ≡ bytes_of (accepted number) = search rules in
    λ n q suits h. told q _ (accepted number) _ (ap answer_of c.in-Accepted.is) (c.write_bytes.ensures.back n h ∙ made) (accepted_back q number (omega arith)) suits

pub returns-in-Passed-clause-back : goal.returns-in-Passed-clause-back
returns-in-Passed-clause-back c =
    let xs = c.in-Passed.arrivals.now in
    let w = c.write_list.ensures in
    λ n q suits h. told q _ (passed xs) _ (ap answer_of c.in-Passed.is) (w.back n h) (passed_back q xs (few (length xs) _ n (sym w.value ∙ h)) (w.each n h)) suits

pub returns-in-Ring-clause-back : goal.returns-in-Ring-clause-back
returns-in-Ring-clause-back c =
    let xs = c.in-Ring.stops.now in
    let w = c.write_list-in-Ring.ensures in
    λ n q suits h. told q _ (ring xs) _ (ap answer_of c.in-Ring.is) (w.back n h) (ring_back q xs (few (length xs) _ n (sym w.value ∙ h)) (w.each n h)) suits

pub returns-in-Refused-clause-back : goal.returns-in-Refused-clause-back
returns-in-Refused-clause-back c =
    let number = c.in-Refused.number in
    let first = c.in-Refused.first in
    let second = c.in-Refused.second in
    let f = c.to_be_bytes-in-Refused.result in
    let s = c.to_be_bytes-in-Refused-2.result in
    let made : number ∷ get_or f 0 0 ∷ get_or f 1 0 ∷ get_or s 0 0 ∷ get_or s 1 0 ∷ [] ≡ bytes_of (refused number first second) = search rules in
    λ n q suits h. told q _ (refused number first second) _ (ap answer_of c.in-Refused.is) (c.write_bytes-in-Refused.ensures.back n h ∙ made) (refused_back q number first second (omega arith) (omega arith)) suits
