use Rattle.std.proofs.Common.{◌≡◌, [], Ok}
use Rattle.journal.specs.Fillings.{Leaves}
use Rattle.journal.specs.Kept.{KeptParts, after_batch, after_each}
use Rattle.journal.specs.Records.{parts_of_all}
use Rattle.journal.proofs.batching.in_batches.Given as goal

abbrev pub invariant-loop-item : goal.invariant-loop-item
invariant-loop-item l =
    (k kept : KeptParts) → k.channels ≡ []
    → after_batch (parts_of_all l.fn.records.items) k ≡ Ok kept
    → (j : KeptParts) × Leaves l.filling k j
    × (after_each (parts_of_all l.item-iterator.rest.items) j ≡ Ok kept)
