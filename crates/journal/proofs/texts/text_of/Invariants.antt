use Rattle.std.proofs.Common.{◌≡◌, ◌++◌, length}
use Rattle.journal.specs.Records.{AreSound, parts_of_all, payload_of}
use Rattle.journal.proofs.texts.text_of.Given as goal

abbrev pub invariant-loop-rest : goal.invariant-loop-rest
invariant-loop-rest l = record {
  all : l.text.items ++ payload_of (parts_of_all l.rest) ≡ payload_of (parts_of_all l.records);
  sound : AreSound (parts_of_all l.rest) → AreSound (parts_of_all l.records);
  each : AreSound (parts_of_all l.records) → AreSound (parts_of_all l.rest);
}

abbrev pub decreases-loop-rest : goal.decreases-loop-rest
decreases-loop-rest l = length l.rest
