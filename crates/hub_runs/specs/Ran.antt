-- How a run of events ends.
use Rattle.std.specs.Prelude.{◌≡◌, ℕ, List, [], ◌++◌, Option, None, Some, length, map, reverse, slice_get}
use Rattle.std.specs.Prelude.{take}
use Rattle.std.specs.List.{range_with_len}
use Rattle.std.specs.Option.{unwrap_or}
use Rattle.hub_ends.specs.Came.{Came}
use Rattle.hub_ends.specs.Outlets.{OutletState}
use Rattle.hub_core.specs.States.{HubState, ProfileParts, heard, less}
use Rattle.hub_runs.specs.declared.event.Event.{Event}
use Rattle.hub_runs.specs.declared.outcome.Reply.{Reply}
use Rattle.hub_runs.specs.declared.outcome.Stop.{Stop}
use Rattle.history.specs.Entry.{EntryParts}
use Rattle.history.specs.Marks.{mark_of}
use Rattle.history.specs.Messages.{Messages, history_of}
use Rattle.hub_core.specs.Pumping.{with_entry}
use Rattle.std.specs.FinMap as fin
use Rattle.hub_runs.specs.Course.{Before, Follows, came_back, gone_with, with_items}
use Rattle.hub_runs.specs.Late.{EachHasAttached}
use Rattle.hub_core.specs.Running.{AreMessages, kept_on}
use Rattle.irc_support.specs.Text.{Text}
use Rattle.std.specs.Option.{option_to_list}
use Rattle.std.specs.Prelude.{IsSome}
use Rattle.hub_runs.specs.Presence.{AreKnown, Holds}
use Rattle.hub_runs.specs.Replies.{Limits, answer_of, deeds_of, replies_of}
use Rattle.hub_runs.specs.Transcripts.{transcript_of}
use Rattle.hub_runs.specs.Worlds.{AllHappen, RestsAt, Stops, WorldState, numbers_given}
use Rattle.hub_runs.specs.Worlds.{rest_after}

-- After this many events a run ends: all of them are done; or it stops at the next one, and these
-- items of that one were taken.
abbrev pub EndsAt : List Event → ℕ → Option Stop → WorldState → List Came → WorldState → Type 0
EndsAt events done None last taken world =
    (done ≡ length events) × (taken ≡ []) × (world ≡ last)
EndsAt events done (Some s) last taken world =
    (e : Event) × (slice_get events done ≡ Some e) × Stops e s last taken world.hub ×
    (world.gone ≡ last.gone) × RestsAt e last.rest world.rest

-- Nothing was before: no message, mark or name. Of the messages that come the last ones are kept,
-- and the first that is kept has this number.
abbrev pub none_before : ProfileParts → ℕ → ℕ → Before
none_before profile capacity first = record {
  profile = profile;
  kept = history_of capacity first;
  mark = λ name. None;
  names = [];
}

-- these messages, marks and names were before
abbrev pub before_of : HubState → Before
before_of start = record {
  profile = start.profile;
  kept = kept_on start.history;
  mark = λ name. mark_of name start.marks;
  names = fin.keys start.marks;
}

-- a message more is kept after the others
abbrev pub KeepsOn : (List EntryParts → Messages) → Type 0
KeepsOn kept = (ms : List EntryParts) (e : Option EntryParts) → (IsSome e → IsSome (kept ms).next)
    → with_entry (kept ms) e ≡ kept (ms ++ option_to_list e)

-- a run can begin with this hub, and with what was before
pub record CanRun (b : Before) (h : HubState) : Type 0 where
  pub profile : h.profile ≡ b.profile
  pub history : h.history ≡ b.kept []
  pub messages : AreMessages h.history.kept
  pub marks : (name : Text) → mark_of name h.marks ≡ b.mark name
  pub names : AreKnown b.names h.marks
  pub keeps : KeepsOn b.kept

-- what a run begins with
abbrev pub limits_from : Before → HubState → Limits
limits_from b start = record {
  before = b;
  first_session = unwrap_or start.next 0;
  upstream = start.upstream.capacity;
}

-- a run of events, from what it began with, and what was before, to what there is at its end
pub record RanFrom (b : Before) (start : WorldState) (events : List Event) (done : ℕ)
    (stopped_by : Option Stop) (replies : List Reply) (world : WorldState) : Type 0 where
  -- what there was after the last event that is done
  pub last : WorldState
  pub happened : AllHappen (take done events) replies start last
  -- what was taken of the next event
  pub taken : List Came
  pub ends : EndsAt events done stopped_by last taken world
  -- the hub took the transcript of the events done and what was taken of the next, each line with
  -- the moment at which its LF came
  pub heard_all : less world.hub.taken world.hub.held ≡ transcript_of (take done events) ++ taken
  -- so did what happened, by which all below is stated
  pub deeds_are : reverse (came_back
      (with_items (deeds_of (limits_from b start.hub) (take done events)) taken))
      ≡ transcript_of (take done events) ++ taken
  -- late attach: each session attached, was first sent the burst with what its name had missed, and
  -- its client knows what is to be known since
  pub late_attach : EachHasAttached b.profile.playing start (take done events) replies
      (with_items (deeds_of (limits_from b start.hub) (take done events)) taken) (heard world.hub)
      world.hub.sessions
  -- what each event was answered is what the events before it say
  pub answered : map answer_of replies ≡ replies_of (limits_from b start.hub) (take done events)
  -- what each session and the network were sent, which messages are kept and what each name has
  -- seen is what all that happened says
  pub course : Follows b start.hub
      (with_items (deeds_of (limits_from b start.hub) (take done events)) taken) world.hub
  -- so is who is there, with what waits for each, which names are known, and which number comes
  -- next
  pub holds : Holds b.names (limits_from b start.hub).first_session
      (with_items (deeds_of (limits_from b start.hub) (take done events)) taken) world.hub
  -- the outlets of the sessions that were detached were sent their packets up to then
  pub gone : map (λ (o : OutletState). o.sent) world.gone ≡ gone_with b
      (deeds_of (limits_from b start.hub) (take done events))
  -- after the last LF is what the pieces since the last loss left
  pub rest : last.rest ≡ rest_after [] (take done events)
  -- the numbers of sessions rise by one from the first, so none was given twice
  pub numbers : (first : ℕ) → start.hub.next ≡ Some first
      → numbers_given replies ≡ range_with_len first (length (numbers_given replies))

-- a run of events that begins with nothing
abbrev pub Ran : WorldState → List Event → ℕ → Option Stop → List Reply → WorldState → Type 0
Ran start events done stopped_by replies world =
    RanFrom (none_before start.hub.profile start.hub.history.capacity start.hub.first) start events
    done stopped_by replies world

-- a run of events that goes on from the messages and marks that it begins with
abbrev pub RanOn : WorldState → List Event → ℕ → Option Stop → List Reply → WorldState → Type 0
RanOn start events done stopped_by replies world =
    RanFrom (before_of start.hub) start events done stopped_by replies world
