use Rattle.hub_ends.proofs.packet.Packet.one.Goals as goal
use Rattle.hub_ends.proofs.PacketBytes.{is_packet, lines_back}
use Rattle.{irc_line.proofs.Making.writable-again, std.proofs.Common.{◌∷◌, [], append-nil}}

pub of_text-requires : goal.of_text-requires
of_text-requires g c =
    is_packet _
    (c.args.line.now ∷ []) (rw (c.in_ok-write.ensures.ok, c.new-text.ensures.items, append-nil))
    ((writable-again c.args.line.now).1 c.write.ensures.again, tt)

pub returns : goal.returns
returns g c =
    rw (lines_back c.write.new.out.items (c.args.line.now ∷ [])
    (rw (c.in_ok-write.ensures.ok, c.new-text.ensures.items, append-nil))
    ((writable-again c.args.line.now).1 c.write.ensures.again, tt)) at c.of_text.ensures
