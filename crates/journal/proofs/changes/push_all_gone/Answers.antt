use Rattle.std.proofs.Common.{arith}
use Rattle.std.specs.FinMap as fin
use Rattle.std.specs.FinMap.{len-entries}
use Rattle.std.proofs.lemmas.Bool.Decides.{nat_tests}
use Rattle.journal.proofs.Snapshots.{all_told}
use Rattle.journal.specs.Changes.{gone_of}
use Rattle.journal.specs.Records.{parts_of_all}
use Rattle.journal.proofs.changes.push_all_gone.Goals as goal

pub returns : goal.returns
returns c =
    all_told (gone_of c.args.written.now.latest c.args.marks.now c.args.latest.now)
    (fin.entries c.args.written.now.marks) c.loop-i.i (parts_of_all c.loop-i.records.items) _
    (grind (
      arith,
      nat_tests,
      c.loop-i-test.false,
      c.count-count.ensures.count,
      len-entries c.args.written.now.marks,
    ))
    c.loop-i.invariant
