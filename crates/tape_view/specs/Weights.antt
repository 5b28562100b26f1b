-- The bytes that a tape takes.
use Rattle.std.specs.Prelude.{ℕ, ◌+◌, List, length}
use Rattle.std.specs.List.{sum_by}
use Rattle.irc_line.specs.Line.{Parts}
use Rattle.irc_support.specs.Weights.{settings_bytes}
use Rattle.net_view.specs.Arrival.{Arrival, Received, Lost}
use Rattle.net_view.specs.Transcript.{settings_of}
use Rattle.weights.specs.Sums.{maybe_bytes}

-- what a kept line takes beside its texts (our own choice)
abbrev pub line_cost : ℕ
line_cost = 192

-- the texts of a line
unfoldable pub line_bytes : Parts → ℕ
line_bytes line =
    maybe_bytes line.tags + maybe_bytes line.source + length line.command
    + sum_by length line.params

-- a line that is kept; a loss is a mark beside one
abbrev pub arrival_bytes : Arrival → ℕ
arrival_bytes (Received line) = line_cost + line_bytes line
arrival_bytes Lost = 0

unfoldable pub arrivals_bytes : List Arrival → ℕ
arrivals_bytes items = sum_by arrival_bytes items

-- the kept lines and the settings in force
abbrev pub tape_bytes : List Arrival → ℕ
tape_bytes items = arrivals_bytes items + settings_bytes (settings_of items)
