use Rattle.network_tables.proofs.room.RoomTableValue.weight.Goals as goal
use Rattle.std.proofs.Common.{length, refl, rules}
use Rattle.weights.specs.Costs.{channel_cost}

pub returns : goal.returns
returns g c =
    c.more-2.ensures _ _ (c.more.ensures _ _ (c.more-titled.ensures _ _
    (c.more-named.ensures channel_cost (length c.args.self.now.name.items) refl (search rules))
    c.text_weight.ensures) c.bytes.ensures) c.bytes-2.ensures
