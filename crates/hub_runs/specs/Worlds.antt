-- What events do to a hub over ends in memory: there the state before a step determines the step.
use Rattle.std.specs.Prelude.{◌≡◌, ◌⊎◌, ℕ, List, [], ◌∷◌, ◌++◌, Option, None, Some, Bool, true}
use Rattle.std.specs.Prelude.{false, map, Ok, Err}
use Rattle.std.specs.List.{filter_map}
use Rattle.std.specs.Option.{option_map}
use Rattle.std.specs.Prelude.{Vec}
use Rattle.std.specs.declared.alloc.Global.{Global}
use Rattle.irc_line.specs.Lines.{is_too_long, lines_of, rest_of}
use Rattle.irc_line.specs.declared.splitter.FeedError.{FeedError}
use Rattle.irc_line.specs.declared.splitter.FeedError.TheVariants as feed
use Rattle.irc_support.specs.Text.{Text}
use Rattle.net_view.specs.Arrival.{Received, Lost}
use Rattle.history.specs.declared.ring.CapacityError.{CapacityError}
use Rattle.history.specs.declared.ring.CapacityError.TheVariants as capacity
use Rattle.hub_ends.specs.Came.{Came}
use Rattle.hub_ends.specs.Memory.{state_of}
use Rattle.hub_ends.specs.Outlets.{OutletState, new_outlet}
use Rattle.hub_ends.specs.declared.memory_outlet.MemoryOutlet.{MemoryOutlet}
use Rattle.hub_core.specs.declared.attach.AttachError.TheVariants as refused
use Rattle.hub_core.specs.declared.hub.HubError.{HubError}
use Rattle.hub_core.specs.declared.hub.HubError.TheVariants as fault
use Rattle.hub_core.specs.declared.hub.Pumped.{Pumped}
use Rattle.history.specs.Marks.{NameMarks}
use Rattle.history.specs.Messages.{Messages}
use Rattle.hub_core.specs.States.{HubState, ProfileParts, started_by, started_new, whole_profile}
use Rattle.hub_core.specs.Pumping.{Pumps}
use Rattle.hub_core.specs.Attaching.{Attaches, Goes, Lacks, Refuses}
use Rattle.hub_core.specs.declared.detach.Seen.{Seen}
use Rattle.hub_core.specs.declared.detach.Seen.TheVariants as seen
use Rattle.hub_core.specs.Saying.{Says}
use Rattle.hub_core.specs.InMemory.{DrainsAt, DrainsUpstream, with_ahead}
use Rattle.hub_runs.specs.declared.event.Event.{Event}
use Rattle.hub_runs.specs.declared.event.Event.TheVariants as on
use Rattle.hub_runs.specs.declared.outcome.Reply.{Reply}
use Rattle.hub_runs.specs.declared.outcome.Reply.TheVariants as reply
use Rattle.hub_runs.specs.declared.outcome.StartError.{StartError}
use Rattle.hub_runs.specs.declared.outcome.StartError.TheVariants as cause
use Rattle.hub_runs.specs.declared.outcome.Stop.{Stop}
use Rattle.hub_runs.specs.declared.outcome.Stop.TheVariants as stop

-- what there is between events: the hub, the bytes after the last LF of the open stretch, and the
-- outlets of the sessions that were detached, in order
pub record WorldState : Type 0 where
  pub hub : HubState
  pub rest : List ℕ
  pub gone : List OutletState

abbrev pub world_of : HubState → List ℕ → List OutletState → WorldState
world_of hub rest gone = record { hub = hub; rest = rest; gone = gone }

-- what contracts see of outlets in memory
abbrev pub outlets_of : List MemoryOutlet → List OutletState
outlets_of outlets = map state_of outlets

-- what a run begins with that has this profile
abbrev pub beginning_by : ProfileParts → ℕ → ℕ → ℕ → ℕ → WorldState
beginning_by profile history first_number first_session upstream_capacity = record {
  hub = started_new profile [] (new_outlet upstream_capacity) history first_number first_session;
  rest = [];
  gone = [];
}

-- what a run begins with
abbrev pub beginning : ℕ → ℕ → ℕ → ℕ → WorldState
beginning history first_number first_session upstream_capacity =
    beginning_by whole_profile history first_number first_session upstream_capacity

-- what a run begins with that goes on from these messages, whose next one has this number, these
-- marks, and these channels that are to be joined again
abbrev pub beginning_from : ProfileParts → Messages → ℕ → NameMarks → List (Text × Option Text)
    → ℕ → ℕ → WorldState
beginning_from profile history first marks channels first_session upstream_capacity = record {
  hub = started_by profile [] (new_outlet upstream_capacity) history first marks channels
      first_session;
  rest = [];
  gone = [];
}

-- ---- items

-- the hub, once one more item waits in its inlet
abbrev pub coming : HubState → Came → HubState
coming h x = with_ahead h (h.ahead ++ x ∷ [])

-- an item came and was taken
abbrev pub TakesIn : HubState → Came → Pumped → HubState → Type 0
TakesIn old x p new = Pumps true true (coming old x) (Ok p) new

-- items came and were taken, one after the other
abbrev pub TakesAll : HubState → List Came → List Pumped → HubState → Type 0
TakesAll old [] [] new = new ≡ old
TakesAll old (x ∷ xs) (p ∷ ps) new =
    (mid : HubState) × TakesIn old x p mid × TakesAll mid xs ps new
TakesAll old _ _ new = ⊥

-- an item was refused: there was no memory for it to wait, or the hub holds it
abbrev pub RefusesItem : HubState → Came → HubError → HubState → Type 0
RefusesItem old x e new =
    ((e ≡ fault.OutOfMemory) × (new ≡ old)) ⊎ Pumps true true (coming old x) (Err e) new

-- the lines that bytes are, with the moment at which they came
abbrev pub lines_at : List ℕ → ℕ → List Came
lines_at bytes moment = map (λ line. (Received line, moment)) (lines_of bytes)

-- a client's name, as bytes
abbrev pub name_of : Option (Vec ℕ Global) → Option Text
name_of name = option_map (λ (n : Vec ℕ Global). n.items) name

-- ---- events that are done

-- a session goes, and its client has seen this, by the answer to that
abbrev pub Went : Seen → ℕ → Reply → WorldState → WorldState → Type 0
Went seen id (reply.Detach (Ok _)) old new =
    (o : OutletState) × Goes seen old.hub id o o.closed new.hub ×
    (new.rest ≡ old.rest) × (new.gone ≡ old.gone ++ o ∷ [])
Went seen id (reply.Detach (Err _)) old new = Lacks id old.hub.sessions × (new ≡ old)
Went seen id _ old new = ⊥

-- what an event does, by what it was answered
abbrev pub Happens : Event → Reply → WorldState → WorldState → Type 0
Happens (on.Up bytes moment) (reply.Up pumped) old new =
    (is_too_long (old.rest ++ bytes.items) ≡ false) ×
    TakesAll old.hub (lines_at (old.rest ++ bytes.items) moment.0) pumped.items new.hub ×
    (new.rest ≡ rest_of (old.rest ++ bytes.items)) × (new.gone ≡ old.gone)
Happens (on.Lost moment) (reply.Lost pumped) old new =
    TakesIn old.hub (Lost, moment.0) pumped new.hub × (new.rest ≡ []) × (new.gone ≡ old.gone)
Happens (on.Attach caps name capacity) (reply.Attach (Ok id)) old new =
    Attaches true old.hub caps (name_of name) (new_outlet capacity) id new.hub ×
    (new.rest ≡ old.rest) × (new.gone ≡ old.gone)
Happens (on.Attach caps name capacity) (reply.Attach (Err e)) old new =
    Refuses old.hub (name_of name) (new_outlet capacity) e × (e ≡ refused.OutOfMemory → ⊥) ×
    (new ≡ old)
Happens (on.Detach id) r old new = Went seen.All id r old new
Happens (on.Leave id number) r old new = Went (seen.UpTo number) id r old new
Happens (on.Said id line moment) (reply.Said r) old new =
    Says true old.hub id line moment.0 r new.hub × (r ≡ Err fault.OutOfMemory → ⊥) ×
    (new.rest ≡ old.rest) × (new.gone ≡ old.gone)
Happens (on.Drained (Some id) most) (reply.Drained taken) old new =
    DrainsAt old.hub id most taken new.hub × (new.rest ≡ old.rest) × (new.gone ≡ old.gone)
Happens (on.Drained None most) (reply.Drained taken) old new =
    DrainsUpstream old.hub most taken new.hub × (new.rest ≡ old.rest) × (new.gone ≡ old.gone)
Happens _ _ old new = ⊥

-- events, one after the other, each by what it was answered
abbrev pub AllHappen : List Event → List Reply → WorldState → WorldState → Type 0
AllHappen [] [] old new = new ≡ old
AllHappen (e ∷ es) (r ∷ rs) old new =
    (mid : WorldState) × Happens e r old mid × AllHappen es rs mid new
AllHappen _ _ old new = ⊥

-- the number that a client's attach was answered with
abbrev pub number_given : Reply → Option ℕ
number_given (reply.Attach (Ok id)) = Some id
number_given _ = None

-- the numbers that were given, in order
abbrev pub numbers_given : List Reply → List ℕ
numbers_given replies = filter_map number_given replies

-- ---- the event at which a run stops

-- as which refusal to start a hub's counts
abbrev pub start_error_of : CapacityError → StartError
start_error_of capacity.BadCapacity = cause.BadCapacity
start_error_of capacity.OutOfMemory = cause.OutOfMemory

-- as which stop a refusal counts
abbrev pub stop_of : HubError → Stop
stop_of fault.Spent = stop.Spent
stop_of fault.OutOfMemory = stop.Memory

abbrev pub stop_of_feed : FeedError → Stop
stop_of_feed feed.TooLong = stop.TooLong
stop_of_feed feed.OutOfMemory = stop.Memory

-- of some items these were taken, and the next one was refused
pub record RefusesAmong (xs : List Came) (e : HubError) (old : HubState) (taken : List Came)
    (new : HubState) : Type 0 where
  pub pumped : List Pumped
  pub next : Came
  pub later : List Came
  pub are : xs ≡ taken ++ next ∷ later
  pub hub : HubState
  pub took : TakesAll old taken pumped hub
  pub refuses : RefusesItem hub next e new

-- the items that an event brings
abbrev pub items_of : Event → List ℕ → List Came
items_of (on.Up bytes moment) rest = lines_at (rest ++ bytes.items) moment.0
items_of (on.Lost moment) rest = (Lost, moment.0) ∷ []
items_of _ rest = []

-- whether an event brings more bytes without LF than a line may have
abbrev pub is_over : Event → List ℕ → Bool
is_over (on.Up bytes moment) rest = is_too_long (rest ++ bytes.items)
is_over _ rest = false

-- the bytes after the last LF after an event, and after events
abbrev pub rest_behind : List ℕ → Event → List ℕ
rest_behind rest (on.Up bytes moment) = rest_of (rest ++ bytes.items)
rest_behind rest (on.Lost moment) = []
rest_behind rest _ = rest

abbrev pub rest_after : List ℕ → List Event → List ℕ
rest_after rest [] = rest
rest_after rest (e ∷ es) = rest_after (rest_behind rest e) es

-- where a run stops at an event: those before it or, if it was cut into lines, those after it
abbrev pub RestsAt : Event → List ℕ → List ℕ → Type 0
RestsAt e old new = (new ≡ old) ⊎ (new ≡ rest_behind old e)

-- nothing of it was done
abbrev pub DoesNothing : HubState → List Came → HubState → Type 0
DoesNothing old taken new = (taken ≡ []) × (new ≡ old)

-- A run stops at an event: of the items that it brings these were taken, and no more was done. It
-- is `TooLong` exactly if a line is; else an item was refused, or there was no memory.
abbrev pub Stops : Event → Stop → WorldState → List Came → HubState → Type 0
Stops e stop.TooLong old taken new = (is_over e old.rest ≡ true) × DoesNothing old.hub taken new
Stops e stop.Spent old taken new =
    (is_over e old.rest ≡ false) ×
    RefusesAmong (items_of e old.rest) fault.Spent old.hub taken new
Stops e stop.Memory old taken new =
    (is_over e old.rest ≡ false) ×
    (DoesNothing old.hub taken new
    ⊎ RefusesAmong (items_of e old.rest) fault.OutOfMemory old.hub taken new)
