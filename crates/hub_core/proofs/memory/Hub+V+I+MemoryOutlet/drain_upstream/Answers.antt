use Rattle.hub_core.proofs.memory.Hub+V+I+MemoryOutlet.drain_upstream.Goals as goal
use Rattle.hub_core.proofs.{FoundRoom.drained, Words.refl}

pub returns-clause-ok : goal.returns-clause-ok
returns-clause-ok g c =
    let ok = c.in_ok-taken.ensures.ok in
    let few = c.self.inside.upstream.few in
    rw (← c.self.view_is) (record {
      given = _;
      drained = drained _ _ c.args.most _ _ c.drain.ensures.sent c.drain.ensures.closed
          c.drain.ensures.capacity few refl ok.0 ok.2;
      is = refl;
    })
