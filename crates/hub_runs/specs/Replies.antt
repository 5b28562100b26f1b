-- What the events of a run are answered, and what happened in them: functions of the events and of
-- the numbers of the setup alone. Each is answered as what happened before it says.
use Rattle.std.specs.Prelude.{◌-◌, ◌==◌, ◌&&◌, ℕ, List, [], ◌∷◌, ◌++◌, Option, None, Some, Bool}
use Rattle.std.specs.Prelude.{true, false, not, length, min, nat_le, nat_lt, reverse}
use Rattle.std.specs.Prelude.{Result, Ok, Err, if◌then◌else◌}
use Rattle.std.specs.Option.{is_none, option_map_or}
use Rattle.std.specs.Result.{is_ok}
use Rattle.irc_line.specs.Line.{Parts}
use Rattle.irc_support.specs.Text.{Text}
use Rattle.net_view.specs.Arrival.{Lost}
use Rattle.history.specs.Entry.{is_message}
use Rattle.history.specs.Keeping.{Kept}
use Rattle.hub_ends.specs.Came.{Came}
use Rattle.hub_core.specs.declared.attach.AttachError.{AttachError}
use Rattle.hub_core.specs.declared.attach.AttachError.TheVariants as refused
use Rattle.hub_core.specs.declared.detach.Seen.TheVariants as seen
use Rattle.hub_core.specs.declared.hub.HubError.{HubError}
use Rattle.hub_core.specs.declared.hub.HubError.TheVariants as fault
use Rattle.hub_core.specs.declared.hub.Pumped.{Pumped}
use Rattle.hub_core.specs.declared.hub.Pumped.TheVariants.{Taken}
use Rattle.hub_core.specs.declared.said.Meant.{Meant}
use Rattle.hub_core.specs.declared.said.Meant.TheVariants as means
use Rattle.hub_core.specs.declared.said.Said.{Said}
use Rattle.hub_core.specs.declared.said.Said.TheVariants as said
use Rattle.hub_core.specs.Online.{is_online}
use Rattle.hub_core.specs.Saying.{is_spread_by, meaning}
use Rattle.net_view.specs.View.{View}
use Rattle.hub_runs.specs.declared.event.Event.{Event}
use Rattle.hub_runs.specs.declared.event.Event.TheVariants as on
use Rattle.hub_runs.specs.declared.outcome.Reply.{Reply}
use Rattle.hub_runs.specs.declared.outcome.Reply.TheVariants as reply
use Rattle.hub_runs.specs.Course.{Asked, Before, Deed, Drained, Drew, Joined, Left, Passed, Spoke}
use Rattle.hub_runs.specs.Course.{Took, heard_back}
use Rattle.hub_runs.specs.Course.{kept_then, view_then, waiting, with_items}
use Rattle.hub_runs.specs.Presence.{is_among, is_there, names_then, next_then, there, waits}
use Rattle.hub_runs.specs.Worlds.{lines_at, name_of, rest_behind}

-- ---- answers

-- What an event was answered: what the hub did of each line, and of a loss; the number of a client
-- that attached, or why there is none; whether there was a session to go; what was done of a line; how
-- many packets were taken out.
pub data Answer : Type 0 where
  OfLines : List Pumped → Answer
  OfLoss : Pumped → Answer
  OfAttach : Result ℕ AttachError → Answer
  OfDetach : Bool → Answer
  OfLine : Result Said HubError → Answer
  OfDrain : ℕ → Answer

abbrev pub answer_of : Reply → Answer
answer_of (reply.Up pumped) = OfLines pumped.items
answer_of (reply.Lost pumped) = OfLoss pumped
answer_of (reply.Attach r) = OfAttach r
answer_of (reply.Detach r) = OfDetach (is_ok r)
answer_of (reply.Said r) = OfLine r
answer_of (reply.Drained taken) = OfDrain taken

-- a line that went to the network: a message that is not kept went there alone
abbrev pub spoken : Kept → View → ℕ → Parts → ℕ → Deed
spoken k v id line moment =
    if is_message line && not (is_spread_by k v line) then Passed id line
    else Spoke id line moment

-- what has happened after an event, by its answer, if these bytes had come after the last LF
abbrev pub with_event : Kept → List Deed → List ℕ → Event → Answer → List Deed
with_event k older rest (on.Up bytes moment) _ =
    with_items older (lines_at (rest ++ bytes.items) moment.0)
with_event k older rest (on.Lost moment) _ = Took (Lost, moment.0) ∷ older
with_event k older rest (on.Attach caps name capacity) (OfAttach (Ok id)) =
    Joined id (name_of name) caps capacity ∷ older
with_event k older rest (on.Detach id) (OfDetach true) = Left id seen.All ∷ older
with_event k older rest (on.Leave id number) (OfDetach true) = Left id (seen.UpTo number) ∷ older
with_event k older rest (on.Said id line moment) (OfLine (Ok said.Forwarded)) =
    spoken k (view_then older) id line moment.0 ∷ older
with_event k older rest (on.Said id line moment) (OfLine (Ok said.Answered)) = Asked id line ∷ older
with_event k older rest (on.Said id line moment) (OfLine (Ok said.Cut)) = Asked id line ∷ older
with_event k older rest (on.Drained (Some id) most) (OfDrain count) = Drew id count ∷ older
with_event k older rest (on.Drained None most) (OfDrain count) = Drained count ∷ older
with_event k older rest _ _ = older

-- ---- by what happened before

-- of each item that is taken, how many sessions are cut by it
abbrev pub pumped_by : List Deed → Came → Pumped
pumped_by deeds x = Taken (length (there deeds) - length (there (Took x ∷ deeds)))

abbrev pub pumped_then : List Deed → List Came → List Pumped
pumped_then deeds [] = []
pumped_then deeds (x ∷ xs) = pumped_by deeds x ∷ pumped_then (Took x ∷ deeds) xs

-- whether there is no room for a client's name
abbrev pub are_names_full : Option Text → List Text → Bool
are_names_full name names =
    option_map_or (λ n. not (is_among n names) && nat_le 64 (length names)) name false

-- a reason, else a number; if there is neither, the outlet is full
abbrev pub number_or : Option AttachError → Option ℕ → Result ℕ AttachError
number_or (Some e) number = Err e
number_or None None = Err refused.OutletFull
number_or None (Some id) = Ok id

-- what a line for the network is answered, by whether the network is online, whether there is no
-- number for the message, and whether the outlet to the network has room: the first case that fits
abbrev pub forward_by : Bool → Bool → Bool → Result Said HubError
forward_by online spent room =
    if not online then Ok said.Offline else if spent then Err fault.Spent else
    if room then Ok said.Forwarded else Ok said.Busy

-- what a run begins with: what there was before, the number of the first session, and how many
-- packets the outlet to the network holds
pub record Limits : Type 0 where
  pub before : Before
  pub first_session : ℕ
  pub upstream : ℕ

module _ (l : Limits) where
  -- the first reason, in this order, for which no session can be attached
  abbrev pub refusal_then : List Deed → Option Text → Option AttachError
  refusal_then deeds name =
      if not (view_then deeds).ready then Some refused.NotReady else
      if nat_le 64 (length (there deeds)) then Some refused.Full else
      if are_names_full name (names_then l.before.names deeds) then Some refused.NamesFull else
      if is_none (next_then l.first_session deeds) then Some refused.Spent else None

  -- that reason; else the number of the session, if its outlet has room for the burst
  abbrev pub attach_then : List Deed → Option Text → ℕ → Result ℕ AttachError
  attach_then deeds name capacity =
      number_or (refusal_then deeds name)
      (if capacity == 0 then None else next_then l.first_session deeds)

  -- a line for the network
  abbrev pub forward_then : List Deed → Parts → Result Said HubError
  forward_then deeds line =
      forward_by (is_online (reverse (heard_back deeds)))
      (is_spread_by l.before.profile.keeping (view_then deeds) line
      && is_none (kept_then l.before deeds).next)
      (nat_lt (waiting l.upstream deeds) l.upstream)

  -- a line of a session that is there, by what it means
  abbrev pub said_by : Meant → List Deed → ℕ → Parts → Result Said HubError
  said_by means.Quits deeds id line = Ok said.Quit
  said_by means.Nothing deeds id line = Ok said.Answered
  said_by means.Asks deeds id line =
      if is_there id (Asked id line ∷ deeds) then Ok said.Answered else Ok said.Cut
  said_by means.Forwards deeds id line = forward_then deeds line

  -- a line of the session of a number
  abbrev pub said_then : List Deed → ℕ → Parts → Result Said HubError
  said_then deeds id line =
      if is_there id deeds then said_by (meaning line) deeds id line else Ok said.NoSession

  -- The answer to an event after all this, when these bytes have come after the last LF. A
  -- failed allocation is no answer: there a run stops.
  abbrev pub answer_to : List Deed → List ℕ → Event → Answer
  answer_to deeds rest (on.Up bytes moment) =
      OfLines (pumped_then deeds (lines_at (rest ++ bytes.items) moment.0))
  answer_to deeds rest (on.Lost moment) = OfLoss (pumped_by deeds (Lost, moment.0))
  answer_to deeds rest (on.Attach caps name capacity) =
      OfAttach (attach_then deeds (name_of name) capacity)
  answer_to deeds rest (on.Detach id) = OfDetach (is_there id deeds)
  answer_to deeds rest (on.Leave id number) = OfDetach (is_there id deeds)
  answer_to deeds rest (on.Said id line moment) = OfLine (said_then deeds id line)
  answer_to deeds rest (on.Drained (Some id) most) = OfDrain (min most (waits id deeds))
  answer_to deeds rest (on.Drained None most) = OfDrain (min most (waiting l.upstream deeds))

  -- ---- lists of events

  abbrev pub deeds_behind : List Deed → List ℕ → List Event → List Deed
  deeds_behind older rest [] = older
  deeds_behind older rest (e ∷ es) =
      deeds_behind (with_event l.before.profile.keeping older rest e (answer_to older rest e))
      (rest_behind rest e) es

  abbrev pub answers_behind : List Deed → List ℕ → List Event → List Answer
  answers_behind older rest [] = []
  answers_behind older rest (e ∷ es) =
      answer_to older rest e
      ∷ answers_behind (with_event l.before.profile.keeping older rest e (answer_to older rest e))
      (rest_behind rest e) es

  -- what happened in events, the newest first
  abbrev pub deeds_of : List Event → List Deed
  deeds_of events = deeds_behind [] [] events

  -- what they are answered
  abbrev pub replies_of : List Event → List Answer
  replies_of events = answers_behind [] [] events
