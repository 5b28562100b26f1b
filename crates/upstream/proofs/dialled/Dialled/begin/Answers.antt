use Rattle.{irc_line.specs.Writing.bytes_of, std.proofs.Common.subst}
use Rattle.std.specs.{Io.KnownBytes.Appends, Prelude.IfOk}
use Rattle.upstream.proofs.Nicks.{own_nick}
use Rattle.upstream.proofs.dialled.Dialled.begin.Goals as goal
use Rattle.upstream.specs.Dialled.{dialled_stream, registering_stream}
use Rattle.upstream.specs.Registration.{first_lines}

pub returns-clause-sent : goal.returns-clause-sent
returns-clause-sent g c =
    let contents = g.W.Write.contents in
    subst (λ n. IfOk c.begin_as.result (λ r.
    Appends (contents (dialled_stream c.args.self).writer) (contents (registering_stream r).writer)
    (bytes_of (first_lines n))))
    (own_nick c.args.network.now c.nick.result.now c.nick.ensures.value) c.begin_as.ensures.sent
