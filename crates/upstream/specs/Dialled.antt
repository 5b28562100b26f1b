-- What a clause reads of a connection's states.
use Rattle.upstream.specs.Progress.{Progress}
use Rattle.upstream.specs.declared.handshake.Welcomed.{Welcomed}
use Rattle.upstream.specs.declared.dialled.Duplex.{Duplex}
use Rattle.upstream.specs.declared.dialled.Dialled.{Dialled}
use Rattle.upstream.specs.declared.dialled.Registering.{Registering}
use Rattle.upstream.specs.declared.dialled.Live.{Live}

-- the stream of each state
abbrev pub dialled_stream : {R W : Type 0} → Dialled R W → Duplex R W
dialled_stream dialled = dialled.stream

abbrev pub registering_stream : {R W : Type 0} → Registering R W → Duplex R W
registering_stream registering = registering.stream

abbrev pub live_stream : {R W : Type 0} → Live R W → Duplex R W
live_stream live = live.stream

-- the registration that goes on
abbrev pub register_of : {R W : Type 0} → Registering R W → Progress
register_of registering = registering.register

-- what was read from the welcome on
abbrev pub live_welcomed : {R W : Type 0} → Live R W → Welcomed
live_welcomed live = live.welcomed
