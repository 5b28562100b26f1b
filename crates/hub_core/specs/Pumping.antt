-- What a pump does.
use Rattle.std.specs.Prelude.{◌≡◌, ◌⊎◌, ◌↔◌, ◌+◌, ℕ, List, [], ◌∷◌, ◌++◌, Option, None, Some}
use Rattle.std.specs.Prelude.{IsSome, Bool, true, length, min, cond, is_some, codes, if◌then◌else◌}
use Rattle.std.specs.Prelude.{Result, Ok, Err}
use Rattle.std.specs.Option.{option_and_then, option_map, option_map_or, unwrap_or}
use Rattle.irc_line.specs.Line.{Parts, has_command}
use Rattle.irc_line.specs.Tags.{time_of}
use Rattle.irc_line.specs.Writing.{untagged_line}
use Rattle.net_view.specs.Arrival.{Arrival, Received, Lost}
use Rattle.client_caps.specs.Moment.{time_text_of}
use Rattle.history.specs.Entry.{EntryParts, message_of}
use Rattle.history.specs.Keeping.{Kept, if_kept, in_ring_heard, is_kept_heard}
use Rattle.history.specs.Messages.{Messages, with_message}
use Rattle.hub_ends.specs.Came.{Came}
use Rattle.hub_core.specs.declared.hub.Pumped.{Pumped}
use Rattle.hub_core.specs.declared.hub.Pumped.TheVariants.{Nothing, Taken}
use Rattle.hub_core.specs.declared.hub.HubError.{HubError}
use Rattle.hub_core.specs.declared.hub.HubError.TheVariants as fault
use Rattle.hub_ends.specs.Outlets.{OutletState, Took}
use Rattle.hub_core.specs.LostChannels.{still}
use Rattle.hub_core.specs.States.{HubState, view_now}
use Rattle.hub_core.specs.Given.{Delivered, all_sets_but, packet_for}
use Rattle.hub_core.specs.Wishes.{wishes_heard}

-- ---- of an item

-- the message that an item is, with the time that its tag gives, else when it came
abbrev pub entry_for : Came → Option EntryParts
entry_for (Received line, moment) =
    message_of (unwrap_or (time_of line) (time_text_of moment)) line.source line
entry_for (Lost, moment) = None

-- what is kept of an item that was heard, in its ring
abbrev pub entry_kept : Kept → Came → Option EntryParts
entry_kept k x =
    option_map (in_ring_heard k) (option_and_then (if_kept (is_kept_heard k)) (entry_for x))

-- what the network is answered: PONG to a PING, with its parameters (RFC 2812, section 3.7.3)
abbrev pub pong_for : Arrival → Option (List Parts)
pong_for (Received line) =
    if has_command line (codes "PING")
    then Some (untagged_line None (codes "PONG") line.params ∷ []) else None
pong_for Lost = None

-- how many images are made of an item for this many sets of capabilities: none of a loss
abbrev pub images_for : Arrival → ℕ → ℕ
images_for (Received line) sets = sets
images_for Lost sets = 0

-- a count stays at its greatest value once that is reached
abbrev pub counted : ℕ → ℕ
counted n = min n 18446744073709551615

-- one more message, if there is one and a number is left
abbrev pub with_entry : Messages → Option EntryParts → Messages
with_entry h None = h
with_entry h (Some e) = option_map_or (λ number. with_message number e h) h.next h

-- a packet, if there is one, was put if there was room, and left out if there was none
abbrev pub Puts : Bool → OutletState → Option (List Parts) → OutletState → Type 0
Puts alone o None o' = o' ≡ o
Puts alone o (Some p) o' = Took alone o p o' ⊎ ((o.free ≡ 0) × (o' ≡ o))

-- ---- which item

-- the held item is tried again, else the next one comes from the inlet
abbrev pub Comes : Bool → Option Came → List Came → Came → List Came → Type 0
Comes alone None old x new = alone ≡ true → old ≡ x ∷ new
Comes alone (Some y) old x new = (y ≡ x) × (new ≡ old)

pub record Next (alone : Bool) (old : HubState) (x : Came) (new : HubState) : Type 0 where
  pub taken : new.taken ≡ old.taken ++ cond (is_some old.held) [] (x ∷ [])
  pub ahead : Comes alone old.held old.ahead x new.ahead

-- ---- the step

-- One more item was taken in: each session was sent its packet or is gone; a message is kept, if
-- the profile keeps it; a PING was answered if there was room; what clients asked for is granted
-- or refused.
pub record Takes (inlet outlet : Bool) (old : HubState) (cut : ℕ) (new : HubState) : Type 0 where
  pub item : Came
  pub comes : Next inlet old item new
  pub held : new.held ≡ None
  pub sessions : Delivered outlet (λ s. packet_for (view_now old) item s.caps) old.sessions
      new.sessions
  pub left : cut + length new.sessions ≡ length old.sessions
  pub upstream : Puts outlet old.upstream (pong_for item.0) new.upstream
  pub history : new.history ≡ with_entry old.history (entry_kept old.profile.keeping item)
  pub number : IsSome (entry_kept old.profile.keeping item) → IsSome old.history.next
  pub recalled : new.recalled ≡ still (view_now old) item.0 old.recalled
  pub wishes : new.wishes ≡ wishes_heard (view_now old) item.0 old.wishes
  pub images : new.images
      ≡ counted (old.images + images_for item.0 (length (all_sets_but None [] old.sessions)))
  pub others : new ≡ record old {
    taken = new.taken;
    ahead = new.ahead;
    held = new.held;
    sessions = new.sessions;
    upstream = new.upstream;
    history = new.history;
    images = new.images;
    recalled = new.recalled;
    wishes = new.wishes;
  }

-- the item is a message that is kept, and there is no number for it
abbrev pub Spends : HubState → Came → Type 0
Spends h x = IsSome (entry_kept h.profile.keeping x) × (h.history.next ≡ None)

-- the item is held, and nothing else has changed
pub record Holds (inlet : Bool) (old : HubState) (e : HubError) (new : HubState) : Type 0 where
  pub item : Came
  pub comes : Next inlet old item new
  pub held : new.held ≡ Some item
  pub spent : (e ≡ fault.Spent) ↔ Spends old item
  pub others : new ≡ record old { taken = new.taken; ahead = new.ahead; held = new.held }

abbrev pub PumpedAs : Bool → Bool → HubState → Pumped → HubState → Type 0
PumpedAs inlet outlet old Nothing new = (old.held ≡ None) × (old.ahead ≡ []) × (new ≡ old)
PumpedAs inlet outlet old (Taken cut) new = Takes inlet outlet old cut new

abbrev pub Pumps : Bool → Bool → HubState → Result Pumped HubError → HubState → Type 0
Pumps inlet outlet old (Ok p) new = PumpedAs inlet outlet old p new
Pumps inlet outlet old (Err e) new = Holds inlet old e new
