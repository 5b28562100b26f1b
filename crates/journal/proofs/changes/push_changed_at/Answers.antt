use Rattle.std.proofs.Common.{rules}
use Rattle.std.specs.FinMap as fin
use Rattle.journal.proofs.Snapshots.{none_here, one_here}
use Rattle.journal.specs.Changes.{changed_of}
use Rattle.journal.specs.Records.{parts_of_all}
use Rattle.journal.proofs.changes.push_changed_at.Goals as goal

pub returns-in_ok-push_changed-in-Some : goal.returns-in_ok-push_changed-in-Some
returns-in_ok-push_changed-in-Some c =
    one_here (changed_of c.args.written.now.marks c.args.written.now.latest c.args.latest.now)
    (fin.entries c.args.marks.now) c.args.i (parts_of_all c.push_changed.new.records.items)
    (parts_of_all c.args.records.now.items) (c.in-Some.name.now, c.in-Some.mark) (search rules)
    (search rules)

pub returns-in-None : goal.returns-in-None
returns-in-None c =
    none_here (changed_of c.args.written.now.marks c.args.written.now.latest c.args.latest.now)
    (fin.entries c.args.marks.now) c.args.i (parts_of_all c.args.records.now.items) (search rules)
