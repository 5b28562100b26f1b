-- What is still to be done about a network that is removed or changed.
use Rattle.std.specs.Prelude.{◌≡◌, ◌==◌, ◌&&◌, ◌||◌, ◌⊎◌, ℕ, Bool, List, count_by, true}
use Rattle.std.specs.List.{Any}
use Rattle.steward.specs.declared.client.Client.{Client}
use Rattle.steward.specs.declared.event.Answer.{Answer}
use Rattle.steward.specs.declared.event.Answer.TheVariants as answer
use Rattle.steward.specs.declared.event.Why.TheVariants as why
use Rattle.steward.specs.declared.network.Network.{Network}
use Rattle.steward.specs.declared.steward.Steward.{Steward}
use Rattle.steward.specs.Clients.{is_open_in, opened_in}
use Rattle.steward.specs.Networks.{has_number, is_online_by}

-- its connection is by settings that are not those of now, and was not sent QUIT
abbrev pub is_outdated_at : ℕ → Network → Bool
is_outdated_at n x = is_online_by x.phase && (x.is_left || x.is_changed) && (x.number == n)

abbrev pub is_left_at : ℕ → Network → Bool
is_left_at n x = x.is_left && (x.number == n)

abbrev pub is_changed_at : ℕ → Network → Bool
is_changed_at n x = x.is_changed && (x.number == n)

abbrev pub outdated : ℕ → List Network → ℕ
outdated n networks = count_by (is_outdated_at n) networks

-- the removed networks of a number: one at most
abbrev pub lefts : ℕ → List Network → ℕ
lefts n networks = count_by (is_left_at n) networks

-- the changed networks of a number: one at most
abbrev pub changes : ℕ → List Network → ℕ
changes n networks = count_by (is_changed_at n) networks

-- this client is inside this network, and its last line is still to come
abbrev pub IsOpenIn : ℕ → ℕ → List Client → Type 0
IsOpenIn client network clients =
    Any (λ x. (x.number ≡ client) × (is_open_in network x ≡ true)) clients

-- it is removed, and its thread may have ended
abbrev pub IsRemoved : ℕ → List Network → Type 0
IsRemoved n networks = (lefts n networks ≡ 1) ⊎ (count_by (has_number n) networks ≡ 0)

-- it is there, and not removed
abbrev pub IsKept : ℕ → List Network → Type 0
IsKept n networks = (lefts n networks ≡ 0) × (count_by (has_number n) networks ≡ 1)

-- a client is sent its last line only if it is inside the network and that is removed; QUIT goes to the
-- network only if it is removed or changed; nothing is done only if nothing is left to do for this
-- reload: QUIT is not due, and if the network is removed each of its clients was sent its last line
abbrev pub IsParted : Answer → ℕ → Steward → Steward → Type 0
IsParted answer.Nothing number old new = (outdated number new.fleet.networks.items ≡ 0) ×
    (IsKept number new.fleet.networks.items ⊎ (opened_in number new.door.clients.items ≡ 0))
IsParted (answer.Tell client reason) number old new = (reason ≡ why.Removed) ×
    IsRemoved number old.fleet.networks.items × IsOpenIn client number old.door.clients.items
IsParted (answer.Quit network reason) number old new = (network ≡ number) ×
    ((lefts number old.fleet.networks.items ≡ 1) ⊎ (changes number old.fleet.networks.items ≡ 1))
IsParted answer.Wait number old new = lefts number old.fleet.networks.items ≡ 1
IsParted _ number old new = ⊥
