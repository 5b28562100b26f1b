-- The burst by the parts in which it is written.
use Rattle.std.specs.Prelude.{List, [], ◌∷◌, ◌++◌, codes}
use Rattle.std.specs.List.{flat_map, join_with_byte}
use Rattle.std.specs.FinMap as fin
use Rattle.irc_line.specs.Line.{Parts}
use Rattle.irc_support.specs.Text.{Text}
use Rattle.net_view.specs.View.{Channel, View}
use Rattle.client_caps.specs.declared.caps.Caps.{Caps}
use Rattle.welcome.specs.Burst.{channel_lines, greeting_of, no_motd, reply, settings_lines}

-- a 353 of this channel with a row of words
abbrev pub name_row : View → Text → List Text → Parts
name_row v name row = reply v (codes "353") (codes "=" ∷ name ∷ join_with_byte 32 row ∷ [])

-- the lines of the burst about the network and its channels: all but those of persons
abbrev pub network_lines : View → Caps → List Parts
network_lines v caps =
    greeting_of v
    ++ (settings_lines v
    ++ (no_motd v
    ∷ flat_map (λ (e : Text × Channel). channel_lines v caps e.1) (fin.entries v.channels)))
