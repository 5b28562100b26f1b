use Rattle.history.proofs.keeping.is_among.Given as goal
use Rattle.{history.specs.Keeping.is_among, std.proofs.Common.{length, ◌≡◌}}

-- the items that are left decide
abbrev pub invariant-loop-item : goal.invariant-loop-item
invariant-loop-item l = is_among l.rest l.name ≡ is_among l.fn.target l.name

abbrev pub decreases-loop-item : goal.decreases-loop-item
decreases-loop-item l = length l.rest
