use Rattle.upstream.proofs.Registered.{all_welcomed}
use Rattle.upstream.proofs.dialled.Registering.finish.Goals as goal

pub returns-in-Ok-clause-ok : goal.returns-in-Ok-clause-ok
returns-in-Ok-clause-ok g c = λ network dialled taken first.
    all_welcomed network _ _ _ _ _ _ _ first (c.in-Ok.ensures.ok network taken)
