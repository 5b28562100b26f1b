use Rattle.std.proofs.Common.{◌≡◌, ◌<◌, ◌++◌, ℕ, Bor, map}
use Rattle.std.specs.List.{AllByRecursion}
use Rattle.history.specs.Entry.{EntryParts}
use Rattle.journal.specs.Records.{parts_of_all}
use Rattle.journal.specs.Snapshots.{message_records, messages_until}
use Rattle.journal.proofs.snapshotting.message_records.Given as goal

abbrev pub invariant-loop-item : goal.invariant-loop-item
invariant-loop-item l = record {
  all : parts_of_all l.records.items
      ++ messages_until l.expected
      (map (λ (m : ℕ × Bor EntryParts). (m.0, m.1.now)) l.item-iterator.rest.items) l.last
      ≡ message_records
      (map (λ (m : ℕ × Bor EntryParts). (m.0, m.1.now)) l.fn.messages.items) l.last;
  below : AllByRecursion (λ (m : ℕ × EntryParts). m.0 < l.last)
      (map (λ (m : ℕ × Bor EntryParts). (m.0, m.1.now)) l.item-iterator.rest.items);
}
