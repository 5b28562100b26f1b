-- How much a hub keeps at most, and in which order its numbers come.
use Rattle.std.specs.Prelude.{◌≡◌, ◌≤◌, ◌<◌, ◌+◌, ℕ, List, [], ◌∷◌, Option, IfSome, length}
use Rattle.std.specs.List.{AllByRecursion}
use Rattle.std.specs.FinMap as fin
use Rattle.history.specs.Messages.{CanComeAgain, persons_held, targets_held}
use Rattle.hub_core.specs.States.{HubState, SessionState}

-- numbers of sessions rise, and from this one on
abbrev pub RiseFrom : ℕ → List SessionState → Type 0
RiseFrom n [] = Unit {0}
RiseFrom n (s ∷ ss) = (n ≤ s.id) × RiseFrom (s.id + 1) ss

-- There are at most 64 sessions (our own choice). Their numbers rise, below the next one if one is
-- left; so no two are the same.
pub record AreSeated (next : Option ℕ) (ss : List SessionState) : Type 0 where
  pub few : length ss ≤ 64
  pub rise : RiseFrom 0 ss
  pub below : IfSome next (λ number. AllByRecursion (λ s. s.id < number) ss)

-- The bounds of a hub (our own choice): at most 64 sessions, 64 client names, 128 targets with
-- messages, and 128 persons with rings. The numbers of sessions and of messages rise; in each ring no
-- more messages are kept than the history holds.
pub record IsBounded (h : HubState) : Type 0 where
  pub sessions : AreSeated h.next h.sessions
  pub names : fin.len h.marks ≤ 64
  pub targets : targets_held h.history ≤ 128
  pub persons : persons_held h.history ≤ 128
  pub messages : CanComeAgain h.history
