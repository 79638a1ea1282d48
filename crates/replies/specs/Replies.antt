-- What a reply says.
use Rattle.replies.specs.Answers.{Answer, accepted, passed, ring, refused}
use Rattle.replies.specs.declared.reply.Reply.{Reply}
use Rattle.replies.specs.declared.reply.Reply.TheVariants.{Accepted, Passed, Ring, Refused}

abbrev pub answer_of : Reply → Answer
answer_of (Accepted number) = accepted number
answer_of (Passed arrivals) = passed arrivals.now
answer_of (Ring stops) = ring stops.now
answer_of (Refused number first second) = refused number first second
