-- What holds of every hub whenever nobody is in a call.
use Rattle.std.specs.Prelude.{◌≡◌, ◌≤◌, ◌+◌, List, [], ◌∷◌, ◌++◌, Option, Some, None, Bool, false}
use Rattle.std.specs.Prelude.{ℕ, IsTrue, length, map, if◌then◌else◌}
use Rattle.std.specs.List.{flat_map, filter_map, AllByRecursion}
use Rattle.std.specs.Option.{option_to_list}
use Rattle.irc_line.specs.Line.{Parts}
use Rattle.net_view.specs.Agrees.{Agrees}
use Rattle.net_view.specs.Arrival.{Arrival}
use Rattle.net_view.specs.Seen.{kept_by, seen_since}
use Rattle.net_view.specs.View.{View, view_of}
use Rattle.client_caps.specs.Caps.{held}
use Rattle.client_caps.specs.LateAttach.{as_received}
use Rattle.history.specs.Entry.{EntryParts, is_message, is_message_command}
use Rattle.history.specs.Keeping.{Kept, is_kept_said, ring_said}
use Rattle.irc_names.specs.declared.case_mapping.CaseMapping.{CaseMapping}
use Rattle.history.specs.Messages.{AreKeptBefore, AreWrittenMessages, Messages, numbered}
use Rattle.irc_support.specs.Text.{Text}
use Rattle.hub_core.specs.Bounds.{AreSeated}
use Rattle.hub_core.specs.Online.{is_online}
use Rattle.hub_core.specs.LostChannels.{Joinings, lost_channels}
use Rattle.hub_core.specs.Pumping.{entry_kept, with_entry}
use Rattle.hub_core.specs.States.{SessionState, HubState, less, heard}

-- the lines of some packets, in order
abbrev pub lines_sent : List (List Parts) → List Parts
lines_sent packets = flat_map (λ packet. packet) packets

-- what a session was sent, read as a client reads it
abbrev pub view_sent : SessionState → View
view_sent s = view_of (as_received (lines_sent s.outlet.sent))

-- Late attach: what a session's capabilities keep of the view of all lines that it was sent is what
-- can be seen of these items since a boundary, at which it attached or its capabilities changed; and
-- its outlet is open.
pub record Fits (items : List Arrival) (s : SessionState) : Type 0 where
  pub since : ℕ
  pub within : since ≤ length items
  pub knows : kept_by (held s.caps) (view_sent s) ≡ seen_since items since (held s.caps)
  pub opened : s.outlet.closed ≡ None

abbrev pub EachFits : List Arrival → List SessionState → Type 0
EachFits items ss = AllByRecursion (Fits items) ss

-- so each session's client agrees with the network
abbrev pub EachAgrees : View → List SessionState → Type 0
EachAgrees v ss = AllByRecursion (λ s. Agrees (held s.caps) (view_sent s) v) ss

-- entries of messages, with their numbers
abbrev pub AreMessages : List (ℕ × EntryParts) → Type 0
AreMessages kept = AllByRecursion (λ m. IsTrue (is_message_command m.1.command)) kept

-- ---- which messages there were

-- what a message says: its command, its target, and its text
abbrev pub content : EntryParts → List Text
content e = e.command ∷ e.target ∷ e.text ∷ []

-- of a packet that was sent to the network
abbrev pub content_said : List Parts → Option (List Text)
content_said (line ∷ []) = if is_message line then Some (line.command ∷ line.params) else None
content_said _ = None

-- the messages that a hub heard and keeps, and what those say that it sent to the network
abbrev pub entries_heard : HubState → List EntryParts
entries_heard h = filter_map (entry_kept h.profile.keeping) (less h.taken h.held)

abbrev pub contents_said : HubState → List (List Text)
contents_said h = filter_map content_said h.upstream.sent

-- of messages in the order in which they came, those that were heard, and those that were said
abbrev pub heard_among : List (Bool × EntryParts) → List EntryParts
heard_among ms = filter_map (λ m. if m.0 then Some m.1 else None) ms

abbrev pub said_among : List (Bool × EntryParts) → List EntryParts
said_among ms = filter_map (λ m. if m.0 then None else Some m.1) ms

-- messages kept after others, one after another
abbrev pub kept_on : Messages → List EntryParts → Messages
kept_on h [] = h
kept_on h (e ∷ es) = kept_on (with_entry h (Some e)) es

-- whether a message that was said with this content is kept, by our nick and the mapping of then
abbrev pub is_content_kept : Kept → Option Text → CaseMapping → List Text → Bool
is_content_kept k own mapping (command ∷ target ∷ text ∷ []) = is_kept_said k own mapping target text
is_content_kept k own mapping _ = false

-- it is kept or not by the nick and the mapping that we had when it was said
abbrev pub IsChosen : Kept → Bool × List Text → Type 0
IsChosen k s =
    (own : Option Text) × (mapping : CaseMapping) × (is_content_kept k own mapping s.1 ≡ s.0)

-- it is in the ring of the person that it was said to, if it was said to one
abbrev pub IsInRingSaid : Kept → EntryParts → Type 0
IsInRingSaid k e = e.ring ≡ ring_said k e.target

abbrev pub chosen_of : List (Bool × List Text) → List (List Text)
chosen_of sayings = filter_map (λ s. if s.0 then Some s.1 else None) sayings

-- What is kept is what the hub began with, and then the messages that it heard and those that it
-- sent to the network and keeps, each in its ring and with the next number: there is an order of both
-- in which it kept them. They can be written.
pub record AreNumbered (k : Kept) (heard : List EntryParts) (said : List (List Text)) (first : ℕ)
    (h : Messages) : Type 0 where
  pub began : Messages
  pub before : AreKeptBefore first began
  pub order : List (Bool × EntryParts)
  pub heard_are : heard_among order ≡ heard
  -- all that it sent to the network, and whether each is kept
  pub sayings : List (Bool × List Text)
  pub sent_are : map (λ (s : Bool × List Text). s.1) sayings ≡ said
  pub chosen : AllByRecursion (IsChosen k) sayings
  pub said_are : map content (said_among order) ≡ chosen_of sayings
  pub rings : AllByRecursion (IsInRingSaid k) (said_among order)
  pub are : h ≡ kept_on began (map (λ m. m.1) order)
  pub messages : AreMessages h.kept
  pub written : AreWrittenMessages h
  pub numbers : h.next ≡ numbered (first + length order)

-- the running fact, of a hub with this view, which is online or not, and with these channels for
-- joining again
pub record IsRunning (h : HubState) (v : View) (online : Bool) (lost : Joinings) : Type 0 where
  -- a held item is the last one that was taken
  pub held_last : h.taken ≡ less h.taken h.held ++ option_to_list h.held
  -- the view is that of the items taken, except a held one
  pub view_is : v ≡ view_of (heard h)
  pub online_is : online ≡ is_online (heard h)
  pub lost_is : lost ≡ lost_channels (heard h)
  pub fit : EachFits (heard h) h.sessions
  pub seated : AreSeated h.next h.sessions
  pub numbered : AreNumbered h.profile.keeping (entries_heard h) (contents_said h) h.first h.history
