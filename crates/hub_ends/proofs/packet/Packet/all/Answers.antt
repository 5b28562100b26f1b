use Rattle.hub_ends.proofs.packet.Packet.all.Goals as goal
use Rattle.{hub_ends.proofs.PacketBytes.one_more, irc_line.proofs.Making.writable-again}

pub loop-line-preserved : goal.loop-line-preserved
loop-line-preserved g c =
    one_more _ _ _ _ _ c.loop-line-test.true c.line-item.is c.loop-line.invariant
    ((writable-again c.line-item.result).1 c.write.ensures.again) c.in_ok-write.ensures.ok
