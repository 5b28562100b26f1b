-- What contracts see of a hub: plain data, without its view, which is that of the items it heard.
use Rattle.std.specs.Prelude.{ℕ, ◌-◌, List, length, take, Option}
use Rattle.std.specs.Option.{option_to_list}
use Rattle.std.specs.FinMap.{empty}
use Rattle.std.proofs.Common.{Some, None, []}
use Rattle.irc_support.specs.Text.{Text}
use Rattle.net_view.specs.Arrival.{Arrival}
use Rattle.net_view.specs.View.{View, view_of}
use Rattle.history.specs.Keeping.{Kept, kept_by, whole}
use Rattle.history.specs.Messages.{Messages, no_messages}
use Rattle.history.specs.Marks.{NameMarks}
use Rattle.client_caps.specs.declared.caps.Caps.{Caps}
use Rattle.welcome.specs.Playing.{playing_whole}
use Rattle.welcome.specs.declared.playing.Playing.{Playing}
use Rattle.hub_core.specs.declared.profile.Profile.{Profile}
use Rattle.hub_ends.specs.Came.{Came, arrivals}
use Rattle.hub_ends.specs.Outlets.{OutletState}
use Rattle.hub_core.specs.Wishes.{WishesState, no_wishes}

-- which messages a hub keeps, and how it plays them back
pub record ProfileParts : Type 0 where
  pub keeping : Kept
  pub playing : Playing

-- each message, as they came
abbrev pub whole_profile : ProfileParts
whole_profile = record { keeping = whole; playing = playing_whole }

abbrev pub profile_of : Profile → ProfileParts
profile_of p = record { keeping = kept_by p.keeping; playing = p.playing }

-- a session: its number, its client's name, the capabilities that it holds, and its outlet
pub record SessionState : Type 0 where
  pub id : ℕ
  pub name : Option Text
  pub caps : Caps
  pub outlet : OutletState

-- A hub: its profile, which no step changes; the items that its inlet has taken, and those that are known to come; the item that is
-- held; the sessions; the number of the next one, if one is left; the outlet to the network; the
-- messages that are kept, the number of the first, and what each client name has seen; how many
-- images were made; the channels of before it began that are still to be joined; and what clients asked
-- for that outlives a connection.
pub record HubState : Type 0 where
  pub profile : ProfileParts
  pub taken : List Came
  pub ahead : List Came
  pub held : Option Came
  pub sessions : List SessionState
  pub next : Option ℕ
  pub upstream : OutletState
  pub history : Messages
  pub first : ℕ
  pub marks : NameMarks
  pub images : ℕ
  pub recalled : List (Text × Option Text)
  pub wishes : WishesState

-- the items that were taken, except a held one
abbrev pub less : List Came → Option Came → List Came
less taken held = take (length taken - length (option_to_list held)) taken

-- the items that the hub has heard
abbrev pub heard : HubState → List Arrival
heard h = arrivals (less h.taken h.held)

-- the view of what it has heard
abbrev pub view_now : HubState → View
view_now h = view_of (heard h)

-- a hub of this profile and these parts, without sessions, that goes on from these messages and
-- marks, with these channels to be joined
abbrev pub started_by : ProfileParts → List Came → OutletState → Messages → ℕ → NameMarks
    → List (Text × Option Text) → ℕ → HubState
started_by profile ahead upstream history first_number marks channels first_session = record {
  profile = profile;
  taken = [];
  ahead = ahead;
  held = None;
  sessions = [];
  next = Some first_session;
  upstream = upstream;
  history = history;
  first = first_number;
  marks = marks;
  images = 0;
  recalled = channels;
  wishes = no_wishes;
}

-- each message is kept
abbrev pub started_again : List Came → OutletState → Messages → ℕ → NameMarks
    → List (Text × Option Text) → ℕ → HubState
started_again ahead upstream history first_number marks channels first_session =
    started_by whole_profile ahead upstream history first_number marks channels first_session

-- without channels
abbrev pub started_from : List Came → OutletState → Messages → ℕ → NameMarks → ℕ → HubState
started_from ahead upstream history first_number marks first_session =
    started_again ahead upstream history first_number marks [] first_session

-- a hub of this profile and these parts, without sessions, messages or client names
abbrev pub started_new : ProfileParts → List Came → OutletState → ℕ → ℕ → ℕ → HubState
started_new profile ahead upstream capacity first_number first_session =
    started_by profile ahead upstream (no_messages capacity first_number) first_number empty []
    first_session

-- each message is kept
abbrev pub started : List Came → OutletState → ℕ → ℕ → ℕ → HubState
started ahead upstream capacity first_number first_session =
    started_from ahead upstream (no_messages capacity first_number) first_number empty first_session
