use Rattle.std.proofs.Common.{subst}
use Rattle.upstream.proofs.Nicks.{own_nick}
use Rattle.upstream.proofs.serving.serve_network.Goals as goal
use Rattle.upstream.specs.Served.{WasServed}

pub returns : goal.returns
returns g c =
    subst (λ n. WasServed g.I.Read.remaining g.W.Write.contents n c.args.stream c.args.link
    c.serve_network_as.result)
    (own_nick c.args.network.now c.nick.result.now c.nick.ensures.value) c.serve_network_as.ensures
