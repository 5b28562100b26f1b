-- What the answers about logins that are denied, networks and settings say.
use Rattle.std.specs.Prelude.{◌≡◌, ◌+◌, ◌<◌, ◌≤◌, ◌⊎◌, ℕ, List, None, count_by, is_some, map, min, true}
use Rattle.std.specs.List.{Any}
use Rattle.steward.specs.declared.client.Stage.TheVariants.{Late}
use Rattle.steward.specs.declared.event.Answer.{Answer}
use Rattle.steward.specs.declared.event.Answer.TheVariants as answer
use Rattle.steward.specs.declared.event.Why.TheVariants as why
use Rattle.steward.specs.declared.fleet.Ended.TheVariants as ended
use Rattle.steward.specs.declared.fleet.Turn.TheVariants as turn
use Rattle.steward.specs.declared.network.Wanted.{Wanted}
use Rattle.steward.specs.declared.steward.Steward.{Steward}
use Rattle.steward.specs.declared.times.Times.{Times}
use Rattle.steward.specs.Clients.{opened_in}
use Rattle.steward.specs.Endings.{IsLost}
use Rattle.steward.specs.Networks.{has_number, others, served, times_wanted}
use Rattle.steward.specs.Partings.{IsOpenIn}
use Rattle.steward.specs.Reloads.{Keeps, gone_by}
use Rattle.steward.specs.Turns.{IsTurn}

-- the client of this number, and no other, waits for its answer until the time that the terms give
abbrev pub IsAnsweredLate : Answer → ℕ → ℕ → Steward → Steward → Type 0
IsAnsweredLate (answer.AnswerAt client time) number now old new = (client ≡ number) ×
    (time ≡ min (now + old.terms.answer) 18446744073709551615) ×
    Any (λ x. (x.number ≡ number) × (x.stage ≡ Late time)) new.door.clients.items
IsAnsweredLate _ number now old new = Unit {0}

-- what the thread of the network of this number is to do has its cause in the table of networks, and
-- after a stop nothing is dialled
abbrev pub IsAsked : Answer → ℕ → ℕ → Steward → Steward → Type 0
IsAsked (answer.Dial network) number now old new = (network ≡ number) × (old.stop ≡ None) ×
    IsTurn turn.Dial number now old.fleet.times.gap old.fleet.networks.items
    new.fleet.networks.items
IsAsked (answer.RestUntil time) number now old new =
    IsTurn (turn.Rest time) number now old.fleet.times.gap old.fleet.networks.items
    new.fleet.networks.items ⊎
    IsTurn (turn.Yield time) number now old.fleet.times.gap old.fleet.networks.items
    new.fleet.networks.items
IsAsked answer.WaitForOther number now old new =
    IsTurn turn.Wait number now old.fleet.times.gap old.fleet.networks.items
    new.fleet.networks.items
IsAsked answer.Over number now old new = (is_some old.stop ≡ true) ⊎
    IsTurn turn.Over number now old.fleet.times.gap old.fleet.networks.items
    new.fleet.networks.items
IsAsked answer.Nothing number now old new =
    IsTurn turn.Busy number now old.fleet.times.gap old.fleet.networks.items
    new.fleet.networks.items
IsAsked _ number now old new = ⊥

-- what becomes of the network of this number once its connection has ended
abbrev pub IsLostFor : Answer → ℕ → ℕ → ℕ → Steward → Steward → Type 0
IsLostFor (answer.EndedUntil network time) number now chance old new = (network ≡ number) ×
    IsLost (ended.Rests time) number now chance old.fleet.times old.fleet.networks.items
    new.fleet.networks.items
IsLostFor (answer.EndedOver network) number now chance old new = (network ≡ number) ×
    IsLost ended.Over number now chance old.fleet.times old.fleet.networks.items
    new.fleet.networks.items
IsLostFor answer.Nothing number now chance old new =
    IsLost ended.None number now chance old.fleet.times old.fleet.networks.items
    new.fleet.networks.items
IsLostFor _ number now chance old new = ⊥

-- the network of this number, and no other, is begun anew, only if it keeps more than its budget and
-- the service is not to end, and once each of its clients was sent its last line; nothing is done only
-- for one of three reasons
abbrev pub IsBegunAnew : Answer → ℕ → ℕ → Steward → Steward → Type 0
IsBegunAnew (answer.BeginAnew network) number bytes old new = (network ≡ number) ×
    (old.stop ≡ None) × (old.terms.budget < bytes) ×
    (opened_in number new.door.clients.items ≡ 0) ×
    (others number new.fleet.networks.items ≡ others number old.fleet.networks.items)
IsBegunAnew (answer.Tell client reason) number bytes old new = (reason ≡ why.Anew) ×
    (old.stop ≡ None) × (old.terms.budget < bytes) × (new.fleet ≡ old.fleet) ×
    IsOpenIn client number old.door.clients.items
IsBegunAnew answer.Nothing number bytes old new = (is_some old.stop ≡ true × (new ≡ old)) ⊎
    ((bytes ≤ old.terms.budget) × (new ≡ old)) ⊎
    (count_by (has_number number) old.fleet.networks.items ≡ 0)
IsBegunAnew _ number bytes old new = ⊥

-- the networks served are those of these settings, each name once; those that were there come
-- first, each as the settings have it, and networks rest as these say; after a stop nothing changes
abbrev pub IsReloaded : Answer → List Wanted → Times → ℕ → Steward → Steward → Type 0
IsReloaded answer.Reloaded list times now old new = (old.stop ≡ None) × (old.settings < new.settings) ×
    (new.read_at ≡ now) × (new.fleet.times ≡ times) ×
    ((name : ℕ) → served name new.fleet.networks.items ≡ min 1 (times_wanted name list)) ×
    Keeps (map (gone_by now list) old.fleet.networks.items) new.fleet.networks.items
IsReloaded answer.Nothing list times now old new = (is_some old.stop ≡ true) × (new ≡ old)
IsReloaded _ list times now old new = ⊥
