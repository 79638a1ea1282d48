use Rattle.std.proofs.Common.{[], IsOk, inl, inr, refl, rules}
use Rattle.std.specs.Io.KnownBytes.{Consumes, IsAtEnd}
use Rattle.console.proofs.Loaded.{on_ok}
use Rattle.console.proofs.files.read_whole.Goals as goal
use Rattle.console.proofs.files.read_whole.Goals.{in-Ok+then-is_err+in_ok-read-2, in_default, in_default-via-in-Err-1, in_default-via-in-Ok+else-is_err}

pub returns : goal.returns
returns g c = elim c.match-file-2.branch [
  | in-Ok+then-is_err+in_ok-read-2 w ↦ record { bytes = []; all = inl refl; has_read = rw w.read-is w.in_ok-read-2.ensures }
  | in_default w ↦ elim w.in_default.branch [
    | in_default-via-in-Err-1 v ↦ record { bytes = []; all = inl refl; has_read = rw w.read-is (rw v.read-is c.in_ok-read.ensures) }
    | in_default-via-in-Ok+else-is_err v ↦
        let f = v.feed.ensures [] c.in_ok-read.ensures in
        let left = g.R.Read.remaining v.feed.new.file in
        let is : IsOk v.feed.result = search rules in
        let all = on_ok v.feed.result (Consumes (g.R.Read.remaining v.in-Ok.file) left f.0 × IsAtEnd left) is f.2 in
        record { bytes = f.0; all = inr (rw v.in-Ok.is (left, all.0, all.1)); has_read = rw w.read-is (rw v.read-is f.1) }
  ]
]
