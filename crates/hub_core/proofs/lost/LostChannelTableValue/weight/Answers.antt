use Rattle.hub_core.proofs.lost.LostChannelTableValue.weight.Goals as goal
use Rattle.std.proofs.Common.{length, refl, rules}
use Rattle.weights.specs.Costs.{name_cost}

pub returns : goal.returns
returns c =
    c.more.ensures _ _
    (c.more-named.ensures name_cost (length c.args.self.now.name.items) refl (search rules))
    c.text_weight.ensures
