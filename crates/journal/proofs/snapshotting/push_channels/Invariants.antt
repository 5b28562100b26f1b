use Rattle.std.proofs.Common.{◌≡◌, ◌++◌, length, map}
use Rattle.journal.specs.Kept.{channel_parts}
use Rattle.journal.specs.Records.{parts_of_all}
use Rattle.journal.specs.Snapshots.{channel_records}
use Rattle.journal.proofs.snapshotting.push_channels.Given as goal

abbrev pub invariant-loop-rest : goal.invariant-loop-rest
invariant-loop-rest l =
    parts_of_all l.records.items ++ channel_records (map channel_parts l.rest)
    ≡ parts_of_all l.fn.records.items ++ channel_records (map channel_parts l.channels)

abbrev pub decreases-loop-rest : goal.decreases-loop-rest
decreases-loop-rest l = length l.rest
