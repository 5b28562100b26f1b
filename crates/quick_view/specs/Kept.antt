-- What is kept of a network, and the view that it stands for.
use Rattle.std.specs.Option.{option_map}
use Rattle.net_view.specs.View.{View}
use Rattle.network_tables.specs.People.{people_of}
use Rattle.network_tables.specs.Rooms.{rooms_of}
use Rattle.quick_view.specs.declared.state.State.{State}

-- the view of what is kept
abbrev pub view_kept : {A : Type 0} → State A → View
view_kept s = record {
  own = option_map (λ nick. nick.items) s.own;
  ready = s.ready;
  settings = s.support;
  channels = rooms_of s.rooms.all;
  people = people_of s.people.all;
}
