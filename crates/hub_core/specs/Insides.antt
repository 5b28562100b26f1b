-- What contracts see of the parts of a hub.
use Rattle.std.specs.Prelude.{ℕ, List, map}
use Rattle.std.specs.Option.{option_map}
use Rattle.std.specs.Prelude.{Vec}
use Rattle.std.specs.declared.alloc.Global.{Global}
use Rattle.hub_core.specs.declared.session.Session.{Session}
use Rattle.hub_ends.specs.Came.{Came, came}
use Rattle.hub_ends.specs.Outlets.{OutletState}
use Rattle.hub_core.specs.declared.hub.Hub.TheInside.{Inside}
use Rattle.hub_core.specs.LostChannels.{joining}
use Rattle.hub_core.specs.States.{SessionState, HubState, profile_of}
use Rattle.hub_core.specs.Wishes.{wishes_of}

-- a session, by what its outlet is
abbrev pub state_of : {O : Type 0} → (O → OutletState) → Session O → SessionState
state_of outlet s = record {
  id = s.id;
  name = option_map (λ (n : Vec ℕ Global). n.items) s.name;
  caps = s.caps;
  outlet = outlet s.outlet;
}

-- a hub, by what its inlet and its outlets are
abbrev pub hub_of : {V I O M : Type 0} → (taken ahead : I → List Came) → (O → OutletState)
    → Inside V I O M → HubState
hub_of taken ahead outlet h = record {
  profile = profile_of h.profile;
  taken = taken h.inlet;
  ahead = ahead h.inlet;
  held = option_map came h.held;
  sessions = map (state_of outlet) h.sessions.items;
  next = h.next;
  upstream = outlet h.upstream;
  history = h.history;
  first = h.first;
  marks = h.marks;
  images = h.images;
  recalled = map joining h.recalled.items;
  wishes = wishes_of h.wishes;
}
