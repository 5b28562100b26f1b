use Rattle.hub_threads.proofs.writing.write_out.Given as goal
use Rattle.hub_threads.{proofs.Bytes.IsUnderWay, specs.{Backlogs.rest_of, Rings.items_of}}

abbrev pub invariant-loop : goal.invariant-loop
invariant-loop g l = IsUnderWay (items_of l.fn.end) (items_of l.end) (g.W.Write.contents l.fn.out)
    (g.W.Write.contents l.out) (rest_of l.backlog) l.count
