use Rattle.std.proofs.Common.{rules}
use Rattle.journal.proofs.Headers.{foreign_none, foreign_some}
use Rattle.journal.proofs.header.behind_header.Goals as goal

pub returns-in-None-2-clause-not_a_journal : goal.returns-in-None-2-clause-not_a_journal
returns-in-None-2-clause-not_a_journal c = λ _.
    foreign_some c.args.bytes.now c.in-Some.text.now c.in-Some.more.now
    c.in-Some.ensures.found.1 c.in-Some.ensures.found.0 c.in-None-2.ensures.none

pub returns-else-with-clause-not_a_journal : goal.returns-else-with-clause-not_a_journal
returns-else-with-clause-not_a_journal c = λ _.
    foreign_none c.args.bytes.now c.in-None.ensures.none (search rules) (search rules)
