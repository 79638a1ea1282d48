-- A history is lawful where each call has the answer that is worked out and each judging concludes what it should.
use Rattle.std.proofs.Common.{◌≡◌, refl, subst}
use Rattle.sheet.specs.Book.{Book, opened}
use Rattle.sheet.specs.Histories.{History, opening, ◌▹◌}
use Rattle.judge.specs.Shown.{Concludes}
use Rattle.judge.specs.FindingHistories.{Event, entered, judged, Lawful}
use Rattle.worked.proofs.Entries.{answer, answers, left, leaves}

-- the book after a history, with the answers that are worked out
abbrev pub book_after : History Event → Book
book_after opening = opened
book_after (h ▹ entered call a) = left (book_after h) call (answer (book_after h) call)
book_after (h ▹ judged y room found) = book_after h

-- the history with those answers
abbrev pub answered : History Event → History Event
answered opening = opening
answered (h ▹ entered call a) = answered h ▹ entered call (answer (book_after h) call)
answered (h ▹ judged y room found) = answered h ▹ judged y room found

-- each judging of the history concludes what it names
abbrev pub Conclusions : History Event → Type 0
Conclusions opening = Unit {0}
Conclusions (h ▹ entered call a) = Conclusions h
Conclusions (h ▹ judged y room found) = Conclusions h × Concludes y (book_after h) room found

lawful_answered : (h : History Event) → Conclusions h → Lawful (answered h) (book_after h)
lawful_answered opening k = refl
lawful_answered (h ▹ entered call a) k = (book_after h, lawful_answered h k, (answers (book_after h) call, leaves (book_after h) call))
lawful_answered (h ▹ judged y room found) k = (book_after h, lawful_answered h k.0, (k.1, refl))

pub lawful : (h : History Event) (b : Book) → answered h ≡ h → book_after h ≡ b → Conclusions h → Lawful h b
lawful h b answers book k = subst (λ g. Lawful g b) answers (subst (λ c. Lawful (answered h) c) book (lawful_answered h k))
