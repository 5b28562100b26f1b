use Rattle.hub_threads.proofs.reading.put_unrung.Given as goal
use Rattle.{hub_threads.specs.{Reads.received_at, Rings.put_of}, std.proofs.Common.{◌++◌, ◌≡◌}}

abbrev pub invariant-loop-line : goal.invariant-loop-line
invariant-loop-line g l = record {
  at : put_of l.end ≡ put_of l.initial.end ++ received_at l.fn.moment.0 l.yielded;
}
