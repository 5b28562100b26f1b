-- Whether a network is online: it has taken us in, and the connection was not lost since.
use Rattle.std.specs.Prelude.{Bool, true, false, ◌&&◌, List, slice_get, codes, if◌then◌else◌}
use Rattle.std.specs.Option.{option_map_or, unwrap_or}
use Rattle.std.proofs.Common.{Option, Some, None}
use Rattle.irc_line.specs.Line.{Parts, has_command}
use Rattle.irc_names.specs.Nick.{is_nameable}
use Rattle.net_view.specs.Arrival.{Arrival, Received, Lost}
use Rattle.net_view.specs.LookBack.{last_in}

-- whether a line takes us in: 001 RPL_WELCOME with a nick that can be one (RFC 2812, section 5.1)
abbrev pub is_welcome : Parts → Bool
is_welcome line =
    has_command line (codes "001") && option_map_or is_nameable (slice_get line.params 0) false

-- what an item says about it
abbrev pub says_online : Arrival → Option Bool
says_online (Received line) = if is_welcome line then Some true else None
says_online Lost = Some false

-- what the last item that says something about it says
abbrev pub is_online : List Arrival → Bool
is_online items = unwrap_or (last_in says_online items) false
