use Rattle.commands.proofs.attach.AttachingTaker.take_line.Goals as goal
use Rattle.history.specs.Keeping.{kept_by}
use Rattle.{net_view.specs.Arrival.Received, std.proofs.{Common.sym, lemmas.Result.on_ok_weaker}}

pub returns-clause-taken : goal.returns-clause-taken
returns-clause-taken g c items known =
    on_ok_weaker c.keep_in.result (λ kept. (c.in_ok-take.ensures.taken items known.0, kept))
    (c.keep_in.ensures.kept (kept_by c.args.self.now.keeping) items (Received c.args.line) (sym c.in_ok-entry.ensures.made) known.1)
