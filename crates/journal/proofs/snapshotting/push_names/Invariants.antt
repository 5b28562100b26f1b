use Rattle.std.proofs.Common.{◌≡◌, ◌-◌, ◌++◌, drop}
use Rattle.std.specs.FinMap as fin
use Rattle.journal.specs.Records.{parts_of_all}
use Rattle.journal.specs.Snapshots.{name_records}
use Rattle.journal.proofs.snapshotting.push_names.Given as goal

abbrev pub invariant-loop-i : goal.invariant-loop-i
invariant-loop-i l =
    parts_of_all l.records.items ++ name_records l.latest (drop l.i (fin.entries l.marks))
    ≡ parts_of_all l.fn.records.items ++ name_records l.latest (fin.entries l.marks)

abbrev pub decreases-loop-i : goal.decreases-loop-i
decreases-loop-i l = l.count - l.i
