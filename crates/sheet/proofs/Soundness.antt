-- Every book that a lawful history leads to is sound.
use Rattle.std.proofs.Common.{Ok, Err, rules}
use Rattle.std.proofs.lemmas.Option.{none-some, slice_get_within}
use Rattle.sheet.specs.Book.{Book, opened}
use Rattle.sheet.specs.Calls.{Call, Answer, Answers, Leaves}
use Rattle.sheet.specs.Calls.Call.{enter_carrier, enter_stop, enter_precedence, strike_precedence}
use Rattle.sheet.specs.Histories.{History, Leads, Enters, AlwaysSound}
use Rattle.sheet.specs.Histories.History.{opening, ◌▹◌}
use Rattle.sheet.specs.Sound.{Sound}
use Rattle.sheet.proofs.SoundCarrier.{sound_carrier}
use Rattle.sheet.proofs.SoundStop.{sound_stop}
use Rattle.sheet.proofs.SoundPrecedence.{sound_precedence, sound_strike}

pub sound_opened : Sound opened
sound_opened = search (rules, none-some)

-- a call keeps a book sound
pub sound_after : (b b' : Book) (call : Call) (r : Answer) → Answers b call r → Leaves b call r b' → Sound b → Sound b'
sound_after b b' call (Err refusal) a l sound = rw l sound
sound_after b b' (enter_carrier start goal) (Ok n) a l sound = rw l (sound_carrier b sound start goal a.0)
sound_after b b' (enter_stop carrier place) (Ok n) a l sound = rw l (sound_stop b sound carrier place a.0)
sound_after b b' (enter_precedence first second place) (Ok n) a l sound = rw l (sound_precedence b sound first second place a.0)
sound_after b b' (strike_precedence first second place) (Ok n) a l sound = rw l.2 (sound_strike b sound l.0 (slice_get_within b.precedences l.0 _ l.1))

-- what holds of the opened book, and is kept by each event, holds of every book that a history leads to
pub ever : {Event : Type 0} (Happens : Book → Event → Book → Type 0) (P : Book → Type 0) → P opened → ((b b' : Book) (e : Event) → Happens b e b' → P b → P b') → (h : History Event) (b : Book) → Leads Happens h b → P b
ever Happens P first more opening b l = rw l first
ever Happens P first more (h ▹ e) b l = more l.0 b e l.2 (ever Happens P first more h l.0 l.1)

pub ever_sound : AlwaysSound
ever_sound = ever Enters Sound sound_opened (λ b b' e did sound. sound_after b b' e.0 e.1 did.0 did.1 sound)
