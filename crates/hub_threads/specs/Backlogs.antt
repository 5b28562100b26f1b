-- What a writer has still to write.
use Rattle.std.specs.Prelude.{ℕ, List, [], ◌++◌, Option, None, Some, drop}
use Rattle.irc_line.specs.Line.{Parts}
use Rattle.irc_line.specs.Writing.{bytes_of}
use Rattle.hub_threads.specs.declared.backlog.Backlog.{Backlog}
use Rattle.hub_threads.specs.declared.front.Front.{Front}

-- the written form of a packet, if there is one
abbrev pub bytes_in : Option (List Parts) → List ℕ
bytes_in None = []
bytes_in (Some packet) = bytes_of packet

-- the rest of a packet that is being written, if there is one
abbrev pub left_in : Option Front → List ℕ
left_in None = []
left_in (Some front) = drop front.at (bytes_of front.packet)

-- the rest of the packet in front, then the bytes after it, and last the packet that found no room
abbrev pub rest_of : Backlog → List ℕ
rest_of backlog = left_in backlog.front ++ (backlog.batch.items ++ bytes_in backlog.held)
