use Rattle.hub_ends.proofs.packet.Packet.all.Given as goal
use Rattle.hub_ends.proofs.PacketBytes.{IsWrittenUpTo}

abbrev pub invariant-loop-line : goal.invariant-loop-line
invariant-loop-line g l = IsWrittenUpTo l.text.items l.lines l.line-index
