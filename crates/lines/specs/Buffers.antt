-- What a line buffer keeps.
use Rattle.std.specs.Prelude.{◌≡◌, ℕ, List, take}
use Rattle.lines.specs.declared.buffer.LineBuffer.{LineBuffer}

-- the bytes that are kept
abbrev pub kept : LineBuffer → List ℕ
kept b = b.bytes.items

-- what the buffer keeps of a line whose bytes were pushed since it was new or cleared: the first 65
abbrev pub Keeps : LineBuffer → List ℕ → Type 0
Keeps b line = kept b ≡ take 65 line
