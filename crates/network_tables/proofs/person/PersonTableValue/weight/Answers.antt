use Rattle.network_tables.proofs.person.PersonTableValue.weight.Goals as goal
use Rattle.std.proofs.Common.{length, refl, rules}
use Rattle.weights.specs.Costs.{person_cost}

pub returns : goal.returns
returns g c =
    c.more-2.ensures _ _ (c.more.ensures _ _
    (c.more-named.ensures person_cost (length c.args.self.now.nick.items) refl (search rules))
    c.text_weight.ensures) c.text_weight-2.ensures
