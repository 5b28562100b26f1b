use Rattle.std.proofs.Common.{◌-◌, ◌≡◌, ◌≤◌, take}
use Rattle.std.specs.FinMap as fin
use Rattle.journal_writer.proofs.copying.copied.Given as goal

abbrev pub invariant-loop-i : goal.invariant-loop-i
invariant-loop-i l = record {
  place : l.i ≤ l.count;
  so_far : l.copy ≡ fin.from_entries (take l.i (fin.entries l.marks));
}

abbrev pub decreases-loop-i : goal.decreases-loop-i
decreases-loop-i l = l.count - l.i
