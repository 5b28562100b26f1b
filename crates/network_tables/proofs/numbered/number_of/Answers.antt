use Rattle.network_tables.proofs.numbered.number_of.Goals as goal
use Rattle.{net_view.proofs.Keys.is_same, network_tables.specs.Sought.sought_key}
use Rattle.std.proofs.Common.{sym}

pub returns-then-is_eq : goal.returns-then-is_eq
returns-then-is_eq g c =
    let known = c.in-Some-get.known.now in
    let met = rw (c.is_eq.ensures, c.order.ensures, c.deref.ensures.value) at c.if-is_eq.true in
    rw (← is_same known.key.items (sought_key c.args.sought) met)
    (sym (c.requires.known c.in-Some.last known (sym c.in-Some-get.ensures)))
