-- What becomes of logins that were judged, and why.
use Rattle.std.specs.Prelude.{◌≡◌, ◌≤◌, ◌⊎◌, ℕ, count_by, is_some, true}
use Rattle.std.specs.List.{Any}
use Rattle.steward.specs.declared.event.Answer.{Answer}
use Rattle.steward.specs.declared.event.Answer.TheVariants as answer
use Rattle.steward.specs.declared.event.Verdict.{Verdict}
use Rattle.steward.specs.declared.event.Verdict.TheVariants as verdict
use Rattle.steward.specs.declared.event.Why.{Why}
use Rattle.steward.specs.declared.event.Why.TheVariants as why
use Rattle.steward.specs.declared.steward.Steward.{Steward}
use Rattle.steward.specs.Clients.{is_seated_as, open_as, sessions, waiting}
use Rattle.steward.specs.Networks.{is_served_as, served}

-- no network is served under the name, or the one that is has reached its limit of sessions
abbrev pub IsReason : Why → ℕ → Steward → Type 0
IsReason why.NotServed name old = served name old.fleet.networks.items ≡ 0
IsReason why.Full name old = Any (λ x. (is_served_as name x ≡ true) ×
    (old.door.limits.sessions ≤ sessions x.number old.door.clients.items)) old.fleet.networks.items
IsReason _ name old = ⊥

-- the client of this number is sent this reason, or was sent its last line before
abbrev pub IsRefused : Answer → Why → ℕ → Steward → Type 0
IsRefused (answer.Tell client reason) given number old = (client ≡ number) × (reason ≡ given)
IsRefused answer.Nothing given number old = open_as number old.door.clients.items ≡ 0
IsRefused _ given number old = ⊥

-- the login of this number, right for this name, is let in, or there is a reason; nothing is done only
-- after a stop, or if its seat is gone
abbrev pub IsRightFor : Answer → ℕ → ℕ → Steward → Type 0
IsRightFor (answer.LetIn client network) number name old = client ≡ number
IsRightFor (answer.Tell client reason) number name old =
    (client ≡ number) × IsReason reason name old
IsRightFor answer.Nothing number name old = (is_some old.stop ≡ true) ⊎
    (count_by (is_seated_as number) old.door.clients.items ≡ 0)
IsRightFor _ number name old = ⊥

-- the login of this number, which is wrong, waits for its answer, or is closed without one if the
-- limit of those that wait is reached; nothing is done only if its seat is gone
abbrev pub IsWrongFor : Answer → ℕ → Steward → Type 0
IsWrongFor (answer.AnswerAt client time) number old = client ≡ number
IsWrongFor (answer.Drop client) number old = (client ≡ number) ×
    (old.door.limits.late ≤ waiting old.door.clients.items)
IsWrongFor answer.Nothing number old =
    count_by (is_seated_as number) old.door.clients.items ≡ 0
IsWrongFor _ number old = ⊥

-- the same of a login that was judged by the settings of now
abbrev pub IsChosen : Verdict → Answer → ℕ → ℕ → Steward → Type 0
IsChosen (verdict.Right name) a number settings old =
    settings ≡ old.settings → IsRightFor a number name old
IsChosen verdict.Wrong a number settings old = settings ≡ old.settings → IsWrongFor a number old
