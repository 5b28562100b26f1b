use Rattle.commands.proofs.input.take_all.Given as goal
use Rattle.{net_view.specs.Arrival.{Arrival, Received}, std.proofs.Common.{List, map, ◌++◌, ◌≡◌}}

abbrev pub invariant-loop-line : goal.invariant-loop-line
invariant-loop-line g l = record {
  taken : (items : List Arrival) → g.T.Taker.is_after l.initial.taker items
      → g.T.Taker.is_after l.taker (items ++ map Received l.yielded);
  kept : g.T.Taker.room l.taker ≡ g.T.Taker.room l.initial.taker;
}
