-- The state parts that a hub keeps.
use Rattle.std.specs.Prelude.{◌≡◌, List}
use Rattle.std.specs.List.{AllByRecursion}
use Rattle.net_view.specs.View.{View}
use Rattle.welcome.specs.Burst.{state_part_of}
use Rattle.hub_core.specs.declared.state_parts.StatePart.{StatePart}

-- each is the state part of the view, for its capabilities
abbrev pub AreStateParts : View → List StatePart → Type 0
AreStateParts v parts = AllByRecursion (λ p. p.packet ≡ state_part_of v p.caps) parts
