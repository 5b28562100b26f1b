use Rattle.std.proofs.Common.{rules}
use Rattle.journal.proofs.Grown.{all_below}
use Rattle.journal.proofs.changes.changes_at.Goals as goal

pub batch-requires : goal.batch-requires
batch-requires c = record {
  below = all_below c.args.written.now.next c.args.last c.args.history.now
      c.in_ok-messages.messages.items (search rules) c.can_come_again.ensures (search rules);
}
