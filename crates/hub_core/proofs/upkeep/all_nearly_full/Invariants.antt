use Rattle.hub_core.proofs.upkeep.all_nearly_full.Given as goal
use Rattle.hub_core.{proofs.Words.{length, map, state_of, take, ◌≡◌}, specs.Upkeep.AreFreed}
use Rattle.hub_core.specs.Upkeep.{nearly_full}

abbrev pub invariant-loop-place : goal.invariant-loop-place
invariant-loop-place g l = record {
  freed : AreFreed g.O.Outlet.alone (map (state_of g.O.Outlet.state) l.initial.sessions.items)
      (map (state_of g.O.Outlet.state) l.sessions.items);
  long : length l.sessions.items ≡ length l.initial.sessions.items;
  found : l.numbers.items
      ≡ nearly_full (map (state_of g.O.Outlet.state) (take l.place l.sessions.items));
}
