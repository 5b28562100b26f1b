use Rattle.std.proofs.Common.{map, rules}
use Rattle.journal.proofs.Batches.{follows_then}
use Rattle.journal.specs.Kept.{channel_parts}
use Rattle.journal.proofs.changes.what_changed.Goals as goal

pub returns-in-Some-clause-follows : goal.returns-in-Some-clause-follows
returns-in-Some-clause-follows c =
    follows_then c.changes_at.result c.args.written.now c.in-Some.last c.args.history.now
    c.args.marks.now c.args.latest.now (map channel_parts c.args.channels.now) (search rules)
    (search rules) (search rules) c.changes_at.ensures
