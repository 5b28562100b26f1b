use Rattle.history.proofs.keeping.Keeping.ring_said.Goals as goal
use Rattle.history.proofs.KeptLines.{no_said_ring}
use Rattle.history.specs.{Keeping.kept_by}
use Rattle.std.proofs.Common.{sym, ◌∙◌}

pub returns-then-not-is_message : goal.returns-then-not-is_message
returns-then-not-is_message g c =
    sym (no_said_ring (kept_by c.args.self.now) c.args.line.now
    (sym c.is_message.ensures ∙ c.if-not-is_message.true))
