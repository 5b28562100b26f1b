-- What arrives from a network, one item after the other: a transcript is a list of these.
use Rattle.irc_line.specs.Line.{Parts}
use Rattle.net_view.specs.declared.item.Item.{Item}
use Rattle.net_view.specs.declared.item.Item.TheVariants.{Line}

-- a line, by its parts, or the loss of the connection
pub data Arrival : Type 0 where
  Received : Parts → Arrival
  Lost : Arrival

-- what an item is, wherever its line lies in memory
abbrev pub arrival_of : {A : Type 0} → Item A → Arrival
arrival_of (Line line) = Received line
arrival_of _ = Lost
