-- What comes from a network to its hub.
use Rattle.std.specs.Prelude.{ℕ, List, map}
use Rattle.net_view.specs.Arrival.{Arrival, arrival_of}
use Rattle.net_view.specs.declared.item.Item.{Item}
use Rattle.client_caps.specs.declared.moment.Moment.{Moment}

-- an item, and the moment at which it came, in milliseconds since 1970-01-01T00:00:00Z
abbrev pub Came : Type 0
Came = Arrival × ℕ

-- what an item and a moment in hand are
abbrev pub came : {A : Type 0} → Item A × Moment → Came
came x = (arrival_of x.0, x.1.0)

-- the items alone
abbrev pub arrivals : List Came → List Arrival
arrivals items = map (λ (x : Came). x.0) items
