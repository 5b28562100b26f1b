-- A view that comes from lines.
use Rattle.std.specs.Prelude.{◌≡◌, List}
use Rattle.net_view.specs.Arrival.{Arrival}
use Rattle.net_view.specs.View.{View, view_of}
use Rattle.net_view.specs.Written.{AreWritten}

-- it is that of some transcript whose lines can be written
abbrev pub ComesFromLines : View → Type 0
ComesFromLines v = (items : List Arrival) × AreWritten items × (v ≡ view_of items)
