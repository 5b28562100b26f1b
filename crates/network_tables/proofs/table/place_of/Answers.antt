use Rattle.network_tables.proofs.table.place_of.Goals as goal
use Rattle.{net_view.specs.Names.bytes_cmp, network_tables.specs.Sought.sought_key}

pub returns-clause-place : goal.returns-clause-place
returns-clause-place g c =
    c.binary_search_by.ensures.position
    (λ slot. bytes_cmp slot.entry.value.key.items (sought_key c.args.sought))
    (λ slot r k. rw k.shows at (k.says.met c.requires.head c.requires.bytes))
