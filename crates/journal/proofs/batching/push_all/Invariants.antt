use Rattle.std.proofs.Common.{◌≡◌, ◌++◌, ℕ, List, length}
use Rattle.journal.specs.Fillings.{texts_of}
use Rattle.journal.specs.Records.{AreBatches, journal_of}
use Rattle.journal.proofs.batching.push_all.Given as goal

abbrev pub invariant-loop-rest : goal.invariant-loop-rest
invariant-loop-rest l = record {
  all : l.out.items ++ journal_of (texts_of l.rest)
      ≡ l.fn.out.items ++ journal_of (texts_of l.batches);
  sound : AreBatches (texts_of l.rest) → AreBatches (texts_of l.batches);
  begun : (more : List ℕ) × (l.out.items ≡ l.fn.out.items ++ more);
}

abbrev pub decreases-loop-rest : goal.decreases-loop-rest
decreases-loop-rest l = length l.rest
