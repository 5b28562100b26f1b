use Rattle.hub_core.proofs.lost.add.Goals as goal
use Rattle.{hub_core.proofs.Words.{ap, arith}, network_tables.proofs.ShownLemmas.insert-shown}
use Rattle.hub_core.proofs.Words.{bytes_cmp, bytes_exact, joining, length, nat_list_cmp_total}

pub insert-requires : goal.insert-requires
insert-requires c = omega (arith, ap length c.in-Some.ensures.steps.0, c.loop-channel.invariant.2)

pub loop-channel-preserved : goal.loop-channel-preserved
loop-channel-preserved c =
    let inv = c.loop-channel.invariant in
    let step = c.in-Some.ensures.steps.0 in
    let shows = insert-shown bytes_cmp joining nat_list_cmp_total bytes_exact in (
      tt,
      tt,
      omega (arith, ap length step, inv.2, c.insert.ensures.room),
      rw (c.insert.ensures.all, shows c.loop-channel.lost.all) (rw step at inv.3),
    )
