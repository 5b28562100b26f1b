-- What lasts whatever happens, and what begins no more after a stop.
use Rattle.std.specs.Prelude.{◌≡◌, ◌+◌, ◌≤◌, ℕ, is_some, true}
use Rattle.steward.specs.declared.event.Answer.{Answer}
use Rattle.steward.specs.declared.event.Answer.TheVariants as answer
use Rattle.steward.specs.declared.steward.Steward.{Steward}
use Rattle.steward.specs.Doors.{is_one}
use Rattle.steward.specs.Networks.{onlines}

-- the terms and the limits of clients
abbrev pub IsBound : Steward → Steward → Type 0
IsBound old new = (new.terms ≡ old.terms) × (new.door.limits ≡ old.door.limits)

-- these, the count of settings, the stop, and how long networks rest
abbrev pub IsSame : Steward → Steward → Type 0
IsSame old new = (new.settings ≡ old.settings) × (new.stop ≡ old.stop) × IsBound old new ×
    (new.fleet.times ≡ old.fleet.times)

-- the terms and the limits of clients stay, settings are counted up, and a stop stays as it is
abbrev pub Lasts : Steward → Steward → Type 0
Lasts old new = (old.settings ≤ new.settings) × (is_some old.stop ≡ true → new.stop ≡ old.stop) ×
    IsBound old new

-- whether something begins by an answer, as a login, a session, a connection, a network or other
-- settings: 1 or 0
abbrev pub begins : Answer → ℕ
begins (answer.Serve client) = 1
begins (answer.ServeInPlaceOf client gone) = 1
begins (answer.LetIn client network) = 1
begins (answer.Enter client) = 1
begins (answer.Dial network) = 1
begins (answer.Register network) = 1
begins (answer.Welcome network) = 1
begins (answer.BeginAnew network) = 1
begins answer.Reloaded = 1
begins _ = 0

-- after a stop nothing begins
abbrev pub EndsFirst : Answer → Steward → Type 0
EndsFirst a old = is_some old.stop ≡ true → begins a ≡ 0

-- whether the network of a number is sent QUIT by an answer, and whether we register at it: 1 or 0
abbrev pub quits : ℕ → Answer → ℕ
quits n (answer.Quit network reason) = is_one n network
quits n _ = 0

abbrev pub reached : ℕ → Answer → ℕ
reached n (answer.Register network) = is_one n network
reached n _ = 0

-- a network is sent QUIT only if a connection to it was made and was not sent it since
abbrev pub IsQuitOnce : Answer → Steward → Steward → Type 0
IsQuitOnce a old new = (n : ℕ) → quits n a + onlines n new.fleet.networks.items ≤
    reached n a + onlines n old.fleet.networks.items
