use Rattle.sessions.proofs.CameIn.{let_in_by}
use Rattle.sessions.specs.Claims.{parts_of}
use Rattle.sessions.proofs.judge.ListedJudge.judge.Goals as goal

pub returns-clause-some : goal.returns-clause-some
returns-clause-some g c =
    let_in_by c.args.self.now.config.now c.args.self.now.networks.now (parts_of c.args.claim.now)
    (λ n. n.now) c.let_in.result c.let_in.ensures.some
