use Rattle.sessions.proofs.admission.network_at.Given as goal
use Rattle.{sessions.proofs.Places.Lacks, std.proofs.Common.take}

abbrev pub invariant-loop-one : goal.invariant-loop-one
invariant-loop-one g l = Lacks (take l.one-index l.networks) l.place
