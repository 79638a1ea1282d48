-- What a sheet carries can be used as it stands: it is a fact, however it was shown.
use Rattle.std.proofs.Common.{List}
use mathlib.Core.Logic.{∥∥₁_elim}
use Rattle.std.proofs.Props.{props}
use Rattle.sheet.specs.declared.records.Carrier.{Carrier}
use Rattle.sheet.specs.declared.records.Stop.{Stop}
use Rattle.sheet.specs.declared.records.Precedence.{Precedence}
use Rattle.sheet.specs.Book.{Book}
use Rattle.sheet.specs.Sound.{Sound, Holds}
use Rattle.sheet.specs.Records.{Numbered}

pub sound_held : (b : Book) → Holds (Sound b) → Sound b
sound_held b h = ∥∥₁_elim h (hlevel props) (λ s. s)

pub numbered_held : (cs : List Carrier) (ss : List Stop) (ps : List Precedence) → Holds (Numbered cs ss ps) → Numbered cs ss ps
numbered_held cs ss ps h = ∥∥₁_elim h (hlevel props) (λ n. n)
