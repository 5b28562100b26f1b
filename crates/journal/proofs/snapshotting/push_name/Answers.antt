use Rattle.std.proofs.Common.{◌+◌, drop, rules}
use Rattle.std.specs.FinMap as fin
use Rattle.history.specs.Marks.{mark_of}
use Rattle.journal.proofs.Snapshots.{name_here, name_pushed}
use Rattle.journal.specs.Records.{parts_of_all}
use Rattle.journal.specs.Snapshots.{name_record, name_records, seen_records}
use Rattle.journal.proofs.snapshotting.push_name.Goals as goal

pub returns-in_ok-push_seen-in-Some : goal.returns-in_ok-push_seen-in-Some
returns-in_ok-push_seen-in-Some c =
    let x = c.in-Some.name.now in
    let latest = c.args.latest.now in
    let names = fin.entries c.args.marks.now in
    name_pushed c.args.records.now.items c.push.new.self.items c.in_ok-name_record-in-Some.field-0
    (name_record x c.in-Some.mark) (parts_of_all c.push_seen.new.records.items)
    (seen_records x (mark_of x latest)) (name_records latest (drop (c.args.i + 1) names))
    (name_records latest (drop c.args.i names)) (search rules) (search rules) (search rules)
    (name_here latest c.args.marks.now c.args.i x c.in-Some.mark (search rules))
