use Rattle.hub_runs.proofs.apply.apply.Goals as goal
use Rattle.std.proofs.{Common.refl, lemmas.Result.IfErr-weaker}

pub returns-in-Up-clause-ok : goal.returns-in-Up-clause-ok
returns-in-Up-clause-ok g c = rw c.in-Up.is (c.up.ensures.ok _)

pub returns-in-Up-clause-err : goal.returns-in-Up-clause-err
returns-in-Up-clause-err g c =
    rw c.in-Up.is (IfErr-weaker c.up.result _ _ (λ s k. (k.0, k.1, refl)) (c.up.ensures.err _))

pub returns-in-Lost-clause-ok : goal.returns-in-Lost-clause-ok
returns-in-Lost-clause-ok g c = rw c.in-Lost.is (c.lose.ensures.ok _)

pub returns-in-Lost-clause-err : goal.returns-in-Lost-clause-err
returns-in-Lost-clause-err g c =
    rw c.in-Lost.is (IfErr-weaker c.lose.result _ _ (λ s k. (k.0, k.1, refl)) (c.lose.ensures.err _))

pub returns-in-Attach-clause-ok : goal.returns-in-Attach-clause-ok
returns-in-Attach-clause-ok g c = rw c.in-Attach.is (c.join.ensures.ok _ _)

pub returns-in-Detach-clause-ok : goal.returns-in-Detach-clause-ok
returns-in-Detach-clause-ok g c = rw c.in-Detach.is (c.leave.ensures.ok _)

pub returns-in-Leave-clause-ok : goal.returns-in-Leave-clause-ok
returns-in-Leave-clause-ok g c = rw c.in-Leave.is (c.leave-in-Leave.ensures.ok _)

pub returns-in-Said-clause-ok : goal.returns-in-Said-clause-ok
returns-in-Said-clause-ok g c = rw c.in-Said.is (c.hear.ensures.ok _ _)

pub returns-in-Drained-clause-ok : goal.returns-in-Drained-clause-ok
returns-in-Drained-clause-ok g c = rw c.in-Drained.is (c.drain.ensures.ok _ _)
