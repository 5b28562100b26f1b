-- The bytes of a packet: its lines as they are written, one after the other.
use Rattle.std.specs.Prelude.{◌≡◌, ℕ, IsTrue, List, length}
use Rattle.std.specs.List.{AllByRecursion, flat_map}
use Rattle.irc_line.specs.Line.{Parts}
use Rattle.irc_line.specs.Lines.{lines_of}
use Rattle.irc_line.specs.Writing.{is_writable, written}

-- lines that can be written
abbrev pub AreLines : List Parts → Type 0
AreLines lines = AllByRecursion (λ line. IsTrue (is_writable line)) lines

-- the bytes are those of the lines that are read off them, and this is the number of lines
pub record IsPacket (bytes : List ℕ) (count : ℕ) : Type 0 where
  pub whole : flat_map written (lines_of bytes) ≡ bytes
  pub lines : AreLines (lines_of bytes)
  pub counted : length (lines_of bytes) ≡ count
