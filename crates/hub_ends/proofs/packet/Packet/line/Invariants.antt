use Rattle.hub_ends.proofs.packet.Packet.line.Given as goal
use Rattle.irc_line.specs.Writing.{written}
use Rattle.std.proofs.Common.{◌≡◌, drop}
use Rattle.std.specs.List.{flat_map}

abbrev pub invariant-loop : goal.invariant-loop
invariant-loop g l = l.rest ≡ flat_map written (drop l.counter l.self)
