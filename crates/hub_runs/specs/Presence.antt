-- Who is there, found by looking back over what happened: the sessions with their outlets, the
-- names of clients that are known, and the number of the next session.
use Rattle.std.specs.Prelude.{◌≡◌, ◌+◌, ◌-◌, ◌==◌, ℕ, List, [], ◌∷◌, ◌++◌, Option, None, Some, Bool}
use Rattle.std.specs.Prelude.{cond, is_some, length, map, nat_lt, if◌then◌else◌}
use Rattle.std.specs.List.{AllByRecursion, filter, list_any}
use Rattle.std.specs.Option.{option_and_then, option_map, option_map_or}
use Rattle.std.specs.Ordering.{eq_by_cmp}
use Rattle.std.specs.FinMap as fin
use Rattle.irc_line.specs.Line.{Parts}
use Rattle.irc_support.specs.Text.{Text}
use Rattle.history.specs.Marks.{NameMarks, bytes_cmp}
use Rattle.history.specs.Messages.{numbered}
use Rattle.hub_core.specs.States.{HubState, SessionState}
use Rattle.hub_runs.specs.Course.{Deed, Drained, Drew, Joined, Left, given_then}

-- ---- sessions

-- What becomes of an outlet that is sent a packet, or nothing: if it has room, the packet waits in
-- it too; if it has none, its session is cut. The two numbers are how many packets it holds at most,
-- and how many wait in it.
abbrev pub put_in : Option (List Parts) → ℕ × ℕ → Option (ℕ × ℕ)
put_in None o = Some o
put_in (Some packet) o = if nat_lt o.1 o.0 then Some (o.0, o.1 + 1) else None

-- The outlet of the session of a number. Its burst waits in it first. There is none before the
-- session attaches, and none after it went or was cut.
abbrev pub outlet_then : ℕ → List Deed → Option (ℕ × ℕ)
outlet_then id [] = None
outlet_then id (Joined k name caps capacity ∷ older) =
    cond (k == id) (Some (capacity, 1)) (outlet_then id older)
outlet_then id (Left k seen ∷ older) = cond (k == id) None (outlet_then id older)
outlet_then id (Drew k count ∷ older) =
    option_map (λ (o : ℕ × ℕ). (o.0, cond (k == id) (o.1 - count) o.1)) (outlet_then id older)
outlet_then id (Drained count ∷ older) = outlet_then id older
outlet_then id (d ∷ older) =
    option_and_then (put_in (given_then id older d)) (outlet_then id older)

-- whether the session of a number is there: it attached, and neither went nor was cut since
abbrev pub is_there : ℕ → List Deed → Bool
is_there id deeds = is_some (outlet_then id deeds)

-- how many packets wait in its outlet
abbrev pub waits : ℕ → List Deed → ℕ
waits id deeds = option_map_or (λ (o : ℕ × ℕ). o.1) (outlet_then id deeds) 0

-- the numbers of those who are there, in the order in which they attached
abbrev pub there : List Deed → List ℕ
there [] = []
there (Joined k name caps capacity ∷ older) = there older ++ k ∷ []
there (d ∷ older) = filter (λ id. is_there id (d ∷ older)) (there older)

-- how many clients have attached
abbrev pub attached : List Deed → ℕ
attached [] = 0
attached (Joined k name caps capacity ∷ older) = attached older + 1
attached (_ ∷ older) = attached older

-- the number of the next session, if one is left: from the first one on they rise by one
abbrev pub next_then : ℕ → List Deed → Option ℕ
next_then first deeds = numbered (first + attached deeds)

-- ---- names

-- whether a name is one of these
abbrev pub is_among : Text → List Text → Bool
is_among name names = list_any (eq_by_cmp bytes_cmp name) names

-- one more name, if there is one and it is not among them
abbrev pub with_new : Option Text → List Text → List Text
with_new None names = names
with_new (Some name) names = if is_among name names then names else names ++ name ∷ []

-- the names that were known before and those of all clients that attached, each once
abbrev pub names_then : List Text → List Deed → List Text
names_then names [] = names
names_then names (Joined k name caps capacity ∷ older) = with_new name (names_then names older)
names_then names (_ ∷ older) = names_then names older

-- ---- a hub

-- That many packets wait in a session's outlet, which is open; its other places are free.
pub record HasRoom (deeds : List Deed) (s : SessionState) : Type 0 where
  pub waiting : ℕ
  pub outlet : outlet_then s.id deeds ≡ Some (s.outlet.capacity, waiting)
  pub room : s.outlet.free + waiting ≡ s.outlet.capacity
  pub unclosed : s.outlet.closed ≡ None

abbrev pub numbers_in : List SessionState → List ℕ
numbers_in ss = map (λ (s : SessionState). s.id) ss

-- these sessions are those who are there
pub record ArePresent (deeds : List Deed) (ss : List SessionState) : Type 0 where
  pub who : numbers_in ss ≡ there deeds
  pub rooms : AllByRecursion (HasRoom deeds) ss

-- the names that are known are these
pub record AreKnown (names : List Text) (marks : NameMarks) : Type 0 where
  pub each : (name : Text) → fin.contains_key marks name ≡ is_among name names
  pub count : fin.len marks ≡ length names

-- a hub has these sessions and names, and gives this number next
pub record Holds (names : List Text) (first_session : ℕ) (deeds : List Deed) (h : HubState) : Type 0
  where
    pub present : ArePresent deeds h.sessions
    pub known : AreKnown (names_then names deeds) h.marks
    pub next : h.next ≡ next_then first_session deeds
