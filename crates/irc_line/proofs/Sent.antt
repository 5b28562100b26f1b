-- What a writer got, one write after the other.
use Rattle.irc_line.specs.{Line.Parts, Writing.{bytes_of, written}}
use Rattle.std.proofs.{Common.{List, ◌++◌, ◌≡◌}, lemmas.List.Concat.flat_map-append}

pub bytes_more : (a b : List Parts) → bytes_of (a ++ b) ≡ bytes_of a ++ bytes_of b
bytes_more a b = flat_map-append written a b
