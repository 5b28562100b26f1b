use Rattle.welcome.proofs.backlog.push_batch.Goals as goal
use Rattle.welcome.proofs.{PlaybackWhole.{added, and_added, line_added}, Words.◌++◌}
use Rattle.welcome.proofs.Words.{◌∷◌, [], batch_name, codes, from_bouncer}
use Rattle.welcome.proofs.Words.{on_ok_weaker}

pub returns : goal.returns
returns g c =
    let name = batch_name c.args.place in
    on_ok_weaker c.end_batch.result (λ said. (and_added (line_added (from_bouncer (codes "BATCH")
    ((codes "+" ++ name) ∷ codes "chathistory" ∷ c.args.name.now ∷ [])) c.in_ok-begin_batch.ensures)
    (and_added (added c.in_ok-push_tagged.ensures) (line_added (from_bouncer (codes "BATCH")
    ((codes "-" ++ name) ∷ [])) said))).is) c.end_batch.ensures
