use Rattle.quick_view.proofs.table_view.TableViewWeighed.weight.Goals as goal
use Rattle.network_tables.proofs.BytesLemmas.{shown_weighs}
use Rattle.network_tables.specs.{People.{known_of}, Rooms.{channel_of}}
use Rattle.network_tables.specs.Weights.{channel_bytes, person_bytes}

pub returns : goal.returns
returns g c =
    let state = c.self.inside.state in
    rw (← c.self.view_is) (c.more-2.ensures _ _ (c.more.ensures _ _
    (c.more-ours.ensures _ _ c.text_weight.ensures c.weight.ensures)
    (rw (shown_weighs channel_bytes channel_of state.rooms.all) at c.bytes.ensures))
    (rw (shown_weighs person_bytes known_of state.people.all) at c.bytes-2.ensures))
