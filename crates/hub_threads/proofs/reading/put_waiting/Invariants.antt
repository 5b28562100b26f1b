use Rattle.hub_threads.proofs.reading.put_waiting.Given as goal
use Rattle.{hub_ends.specs.Came.came, hub_threads.specs.Rings.put_of, std.proofs.Common.◌≡◌}

abbrev pub invariant-loop : goal.invariant-loop
invariant-loop g l = record {
  kept : put_of l.end ≡ put_of l.initial.end;
  same : came (l.pair.0, l.pair.1) ≡ came (l.fn.item, l.fn.moment);
}
