use Rattle.std.proofs.Common.{◌≡◌}
use Rattle.journal.specs.Kept.{after_batch, after_each, kept_parts}
use Rattle.journal.specs.Records.{parts_of_all}
use Rattle.journal.proofs.redoing.redo_batch.Given as goal

abbrev pub invariant-loop-item : goal.invariant-loop-item
invariant-loop-item l =
    after_each (parts_of_all l.item-iterator.rest.items) (kept_parts l.kept)
    ≡ after_batch (parts_of_all l.fn.records.items) (kept_parts l.fn.kept)
