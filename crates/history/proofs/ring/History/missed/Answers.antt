use Rattle.history.proofs.ring.History.missed.Goals as goal
use Rattle.history.{proofs.Missed.{lent_all, missed-above, missed_all}, specs.Entry.IsWrittenEntry}
use Rattle.std.proofs.{Common.{append-nil, arith}, lemmas.Grind.common_steps}

pub returns-clause-written : goal.returns-clause-written
returns-clause-written g c kept =
    let all = missed_all IsWrittenEntry c.args.mark c.args.self.now.kept kept in
    lent_all IsWrittenEntry c.loop-entry.missed.items (grind (arith, all, append-nil))

pub loop-entry-init : goal.loop-entry-init
loop-entry-init g c = grind (arith, missed-above c.args.mark c.self.inside.kept)

pub loop-entry-preserved : goal.loop-entry-preserved
loop-entry-preserved g c = grind (arith, common_steps)
