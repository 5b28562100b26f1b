-- How many bytes a view keeps: its texts, and a fixed number for each thing (our own choice).
use Rattle.std.specs.Prelude.{ℕ, ◌+◌}
use Rattle.net_view.specs.View.{View}
use Rattle.irc_support.specs.Weights.{settings_bytes}
use Rattle.network_tables.specs.Table.{map_bytes}
use Rattle.network_tables.specs.Weights.{channel_bytes, person_bytes}
use Rattle.weights.specs.Sums.{maybe_bytes}

-- our own nick, the settings, the channels and the persons in sight
abbrev pub view_bytes : View → ℕ
view_bytes v =
    maybe_bytes v.own + settings_bytes v.settings + map_bytes channel_bytes v.channels
    + map_bytes person_bytes v.people
