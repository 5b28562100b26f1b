use Rattle.std.proofs.Common.{◌≡◌, ◌-◌, ◌++◌, drop}
use Rattle.std.specs.FinMap as fin
use Rattle.std.specs.List.{flat_map}
use Rattle.journal.specs.Changes.{gone_of}
use Rattle.journal.specs.Records.{parts_of_all}
use Rattle.journal.proofs.changes.push_all_gone.Given as goal

abbrev pub invariant-loop-i : goal.invariant-loop-i
invariant-loop-i l =
    parts_of_all l.records.items ++ flat_map (gone_of l.written.latest l.marks l.latest)
    (drop l.i (fin.entries l.written.marks))
    ≡ parts_of_all l.fn.records.items ++ flat_map (gone_of l.written.latest l.marks l.latest)
    (fin.entries l.written.marks)

abbrev pub decreases-loop-i : goal.decreases-loop-i
decreases-loop-i l = l.count - l.i
