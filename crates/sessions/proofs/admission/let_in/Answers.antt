use Rattle.sessions.proofs.admission.let_in.Goals as goal
use Rattle.sessions.{proofs.Places.none_for, specs.Claims.parts_of}

pub returns-clause-none : goal.returns-clause-none
returns-clause-none g c =
    none_for c.args.config.now c.args.networks.now (parts_of c.args.claim.now)
    c.in_ok-place.place c.network_at.result c.in_ok-place.ensures c.network_at.ensures.none
