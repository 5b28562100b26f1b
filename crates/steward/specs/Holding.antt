-- When a client that was let in gets its session.
use Rattle.std.specs.Prelude.{◌≡◌, ◌-◌, ◌==◌, ◌⊎◌, ℕ, Bool, true, None, count_by, is_some, nat_le}
use Rattle.std.specs.List.{Any}
use Rattle.steward.specs.declared.client.Stage.TheVariants.{Inside}
use Rattle.steward.specs.declared.event.Answer.{Answer}
use Rattle.steward.specs.declared.event.Answer.TheVariants as answer
use Rattle.steward.specs.declared.event.Channels.{Channels}
use Rattle.steward.specs.declared.event.Channels.TheVariants.{Settled, Awaited, AwaitedSince}
use Rattle.steward.specs.declared.steward.Steward.{Steward}
use Rattle.steward.specs.Clients.{is_inside_as}
use Rattle.steward.specs.Networks.{lets_enter}

-- each channel was joined or refused, or the wait since the end of the greeting is over (our own
-- choice)
abbrev pub are_settled : ℕ → ℕ → Channels → Bool
are_settled wait now Settled = true
are_settled wait now Awaited = wait == 0
are_settled wait now (AwaitedSince time) = nat_le wait (now - time)

-- the client of this number was let in to this network, and was not sent its last line
abbrev pub IsLetInTo : ℕ → ℕ → Steward → Type 0
IsLetInTo number n steward =
    Any (λ x. (x.number ≡ number) × (x.stage ≡ Inside n)) steward.door.clients.items

-- who is let in gets a session exactly if the network is away, or its channels are settled, and waits
-- otherwise; nothing is done only after a stop, or if there is no such client
abbrev pub IsEntering : Answer → ℕ → Channels → ℕ → Steward → Type 0
IsEntering (answer.Enter client) number channels now old = (client ≡ number) × (old.stop ≡ None) ×
    (n : ℕ) × IsLetInTo number n old ×
    Any (λ x. lets_enter n (are_settled old.terms.wait now channels) x ≡ true) old.fleet.networks.items
IsEntering (answer.Hold client) number channels now old = (client ≡ number) × (old.stop ≡ None) ×
    (n : ℕ) × IsLetInTo number n old ×
    (count_by (lets_enter n (are_settled old.terms.wait now channels)) old.fleet.networks.items ≡ 0)
IsEntering answer.Nothing number channels now old = (is_some old.stop ≡ true) ⊎
    (count_by (is_inside_as number) old.door.clients.items ≡ 0)
IsEntering _ number channels now old = ⊥
