use Rattle.hub_core.proofs.prepare.prepare.Given as goal
use Rattle.hub_core.proofs.{Sets.IsPrepared, Words.{◌≡◌, AllByRecursion, arrival_of, given_but}}
use Rattle.hub_core.proofs.Words.{length, map, packet_for, state_of}

abbrev pub invariant-loop-i : goal.invariant-loop-i
invariant-loop-i g l = record {
  prepared : IsPrepared
      (state_of g.O.Outlet.state)
      (λ s. s.coming) (given_but l.except
      (packet_for (g.V.NetworkView.view l.incoming.view.now) (
        arrival_of l.incoming.item.now,
        l.incoming.moment.0,
      ))) l.except
      l.initial.sessions.items l.sessions.items (map (λ m. m.caps) l.made.items) l.i;
  made : AllByRecursion (λ m. m.packet
      ≡ packet_for (g.V.NetworkView.view l.incoming.view.now) (
        arrival_of l.incoming.item.now,
        l.incoming.moment.0,
      ) m.caps)
      l.made.items;
  long : length l.sessions.items ≡ length l.initial.sessions.items;
}
