use Rattle.std.proofs.Common.{◌≡◌, ◌++◌, ◌∙◌, List, [], append-nil, ap, arith, drop, sym}
use Rattle.std.specs.FinMap as fin
use Rattle.std.proofs.lemmas.Bool.Decides.{nat_tests}
use Rattle.journal.proofs.Snapshots.{names_done}
use Rattle.journal.specs.Records.{RecordParts, parts_of_all}
use Rattle.journal.specs.Snapshots.{name_records}
use Rattle.journal.proofs.snapshotting.push_names.Goals as goal

pub returns : goal.returns
returns c =
    let told = parts_of_all c.loop-i.records.items in
    let none : name_records c.args.latest.now (drop c.loop-i.i (fin.entries c.args.marks.now))
    ≡ [] =
    names_done c.args.latest.now c.args.marks.now c.loop-i.i
    (grind (arith, nat_tests, c.loop-i-test.false, c.count-count.ensures)) in
    sym (append-nil told) ∙ ap (λ (rs : List RecordParts). told ++ rs) (sym none)
    ∙ c.loop-i.invariant
