use Rattle.journal_writer.proofs.due.due_by.Goals as goal
use Rattle.std.proofs.Common.{rules}

pub returns-in-Replace-default-clause-due : goal.returns-in-Replace-default-clause-due
returns-in-Replace-default-clause-due c w same changes =
    c.anew.ensures.due w (c.wanted_by-wanted.ensures w _ _ _ _ _ (search rules) changes)
