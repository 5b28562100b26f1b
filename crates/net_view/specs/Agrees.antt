-- When what a client was sent agrees with the network.
use Rattle.std.specs.Prelude.{◌≡◌}
use Rattle.net_view.specs.View.{View}
use Rattle.net_view.specs.Seen.{HeldCaps, kept_by, Shown, thinned}

-- A client's view agrees with the network's: what its capabilities keep is the same, but without
-- multi-prefix the client knows some of each member's ranks alone.
pub record Agrees (caps : HeldCaps) (w v : View) : Type 0 where
  pub shown : Shown
  pub kept : kept_by caps w ≡ kept_by caps (thinned caps shown v)
