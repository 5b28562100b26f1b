-- What attach, detach and leave do.
use Rattle.std.specs.Prelude.{◌≡◌, ◌≢◌, ◌⊎◌, ◌<◌, ◌&&◌, ℕ, List, [], ◌∷◌, ◌++◌, Option, None, Some}
use Rattle.std.specs.Prelude.{Bool, false, not, nat_le, length, max, min, if◌then◌else◌}
use Rattle.std.specs.Option.{option_map, option_and_then, option_map_or, is_none}
use Rattle.std.specs.FinMap as map
use Rattle.irc_support.specs.Text.{Text}
use Rattle.client_caps.specs.declared.caps.Caps.{Caps}
use Rattle.history.specs.Entry.{EntryParts}
use Rattle.history.specs.Messages.{Messages, missed_by, number_after}
use Rattle.history.specs.Marks.{NameMarks, admitted, mark_of, with_mark, withdrawn}
use Rattle.circular_buffer.specs.Buffer.{last_item}
use Rattle.welcome.specs.Playing.{burst_by}
use Rattle.hub_core.specs.declared.attach.AttachError.{AttachError}
use Rattle.hub_core.specs.declared.attach.AttachError.TheVariants as refused
use Rattle.hub_core.specs.declared.detach.Seen.{Seen}
use Rattle.hub_core.specs.declared.detach.Seen.TheVariants as seen
use Rattle.hub_ends.specs.Outlets.{OutletState, Took}
use Rattle.hub_core.specs.States.{SessionState, HubState, view_now}

-- ---- attach

-- whether there is no room for a client's name
abbrev pub names_full : Option Text → NameMarks → Bool
names_full name marks =
    option_map_or (λ n. not (map.contains_key marks n) && nat_le 64 (map.len marks)) name false

-- the first reason, in this order, for which no session can be attached
abbrev pub refusal_of : HubState → Option Text → Option AttachError
refusal_of h name =
    if not (view_now h).ready then Some refused.NotReady else
    if nat_le 64 (length h.sessions) then Some refused.Full else
    if names_full name h.marks then Some refused.NamesFull else
    if is_none h.next then Some refused.Spent else None

-- what a client of this name missed: the messages numbered above its mark, all if it has none
abbrev pub missed : HubState → Option Text → List EntryParts
missed h name = missed_by (option_and_then (λ n. mark_of n h.marks) name) h.history

-- a name, if there is one, is admitted
abbrev pub with_name : Option Text → NameMarks → NameMarks
with_name name marks = option_map_or (λ n. admitted n marks) name marks

-- whether there is a name that is not known
abbrev pub is_new_name : Option Text → NameMarks → Bool
is_new_name name marks = option_map_or (λ n. not (map.contains_key marks n)) name false

-- a name, if there is one, is withdrawn
abbrev pub without_name : Option Text → NameMarks → NameMarks
without_name name marks = option_map_or (λ n. withdrawn n marks) name marks

-- A session was attached: its outlet was sent one burst, of the view and of what its client missed.
pub record Attaches (alone : Bool) (old : HubState) (caps : Caps) (name : Option Text)
    (outlet : OutletState) (id : ℕ) (new : HubState) : Type 0 where
  pub allowed : refusal_of old name ≡ None
  pub number : old.next ≡ Some id
  pub given : OutletState
  pub sent : Took alone outlet
      (burst_by old.profile.playing (view_now old) caps (missed old name)) given
  pub is : new ≡ record old {
    sessions = old.sessions ++ record { id = id; name = name; caps = caps; outlet = given } ∷ [];
    next = number_after id;
    marks = with_name name old.marks;
  }

-- No session was attached, for its first reason; if there is none, because there was no memory or
-- the outlet was full.
abbrev pub Refuses : HubState → Option Text → OutletState → AttachError → Type 0
Refuses h name outlet e =
    (refusal_of h name ≡ Some e)
    ⊎ ((refusal_of h name ≡ None) × ((e ≡ refused.OutOfMemory)
    ⊎ ((e ≡ refused.OutletFull) × (outlet.free ≡ 0))))

-- ---- detach and leave

-- no session has the number
abbrev pub Lacks : ℕ → List SessionState → Type 0
Lacks id [] = Unit {0}
Lacks id (s ∷ ss) = (s.id ≢ id) × Lacks id ss

-- the number of the last message that is kept
abbrev pub last_number : Messages → Option ℕ
last_number h = option_map (λ (m : ℕ × EntryParts). m.0) (last_item h.kept)

-- a session's name gets a mark, if there are both
abbrev pub marked : Option Text → Option ℕ → NameMarks → NameMarks
marked (Some name) (Some number) marks = with_mark name number marks
marked (Some name) None marks = marks
marked None number marks = marks

-- the mark of a session's name, if it has a name and that has a mark
abbrev pub mark_at : Option Text → NameMarks → Option ℕ
mark_at name marks = option_and_then (λ n. mark_of n marks) name

-- The number up to which a client has seen the messages whose name has this mark, if any, and which
-- has seen those up to another number: the largest of both, at most the last number.
abbrev pub reached : Option ℕ → ℕ → ℕ → ℕ
reached (Some mark) number last = min (max mark number) last
reached None number last = min number last

-- The mark that a session leaves to its client's name, by what the client has seen, the number of
-- the last message, and the mark that the name has. If there is none, the name keeps what it has.
abbrev pub left_by : Seen → Option ℕ → Option ℕ → Option ℕ
left_by seen.All last mark = last
left_by (seen.UpTo (Some number)) (Some last) mark = Some (reached mark number last)
left_by (seen.UpTo (Some number)) None mark = None
left_by (seen.UpTo None) last mark = None

-- The session of that number is gone, and its client has seen this; its name has the mark that
-- this leaves. Its outlet was closed with its number, so it takes no more, and the other end gets
-- that number if there was room.
pub record Goes (seen : Seen) (old : HubState) (id : ℕ) (outlet : OutletState) (told : Option ℕ)
    (new : HubState) : Type 0 where
  pub front : List SessionState
  pub gone : SessionState
  pub back : List SessionState
  pub was : old.sessions ≡ front ++ gone ∷ back
  pub first : Lacks id front
  pub number : gone.id ≡ id
  pub sent : outlet.sent ≡ gone.outlet.sent
  pub closed : outlet.closed ≡ Some id
  pub capacity : outlet.capacity ≡ gone.outlet.capacity
  pub full : outlet.free ≡ 0
  pub told_so : 0 < gone.outlet.free → told ≡ Some id
  pub is : new ≡ record old {
    sessions = front ++ back;
    marks = marked gone.name
        (left_by seen (last_number old.history) (mark_at gone.name old.marks)) old.marks;
  }

-- the session of that number is gone, and its name has seen all messages
abbrev pub Detaches : HubState → ℕ → OutletState → Option ℕ → HubState → Type 0
Detaches old id outlet told new = Goes seen.All old id outlet told new

-- the session of that number is gone, and its name has seen the messages up to a number, if one is
-- known
abbrev pub Leaves : Option ℕ → HubState → ℕ → OutletState → Option ℕ → HubState → Type 0
Leaves number old id outlet told new = Goes (seen.UpTo number) old id outlet told new
