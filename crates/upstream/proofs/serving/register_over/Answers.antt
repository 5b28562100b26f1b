use Rattle.irc_line.proofs.Outcomes.{refused_by}
use Rattle.std.proofs.{Common.{List, [], ℕ}, KnownBytes.Consumes-nil}
use Rattle.std.specs.Io.KnownBytes.{Consumes}
use Rattle.upstream.proofs.{BegunLemmas.cause_of_none, ServedLemmas.registered_by}
use Rattle.upstream.proofs.serving.register_over.Goals as goal
use Rattle.upstream.specs.{Handshake.IsCauseOf, Registration.asked_as}

pub returns-clause-ok : goal.returns-clause-ok
returns-clause-ok g c =
    let network = asked_as c.args.network.now c.args.nick.now in
    registered_by g.I.Read.remaining g.W.Write.contents network c.args.stream
    c.new.result.stream c.in_ok-registering.registering.stream c.into_parts.result.0
    c.in_ok-live.live.stream c.into_parts.result.1 c.in_ok-live.live.welcomed c.new.ensures
    c.in_ok-registering.ensures.unread c.into_parts.ensures.stream c.into_parts.ensures.welcomed
    (c.in_ok-live.ensures.ok network (g.W.Write.contents c.new.result.stream.writer)
    c.in_ok-registering.ensures.taken c.in_ok-registering.ensures.sent)

pub returns-in_err-registering-clause-err : goal.returns-in_err-registering-clause-err
returns-in_err-registering-clause-err g c =
    let network = asked_as c.args.network.now c.args.nick.now in
    let remaining = g.I.Read.remaining in
    let left = remaining c.args.stream.reader in
    let fault = c.in_err-registering.field-0.0 in
    let known = c.in_err-registering.ensures.err in
    refused_by c.from_residual.result
    (λ x. (bytes : List ℕ) × Consumes left (remaining x.1.reader) bytes
    × IsCauseOf network bytes x.0)
    fault c.from_residual.ensures.1
    ([], rw (known.1, c.new.ensures) (Consumes-nil left), cause_of_none network fault.0 known.0)

pub returns-in_err-live-clause-err : goal.returns-in_err-live-clause-err
returns-in_err-live-clause-err g c =
    let network = asked_as c.args.network.now c.args.nick.now in
    let remaining = g.I.Read.remaining in
    let left = remaining c.args.stream.reader in
    let known = c.in_err-live.ensures.err network c.in_ok-registering.ensures.taken in
    refused_by c.from_residual-in_err-live.result
    (λ x. (bytes : List ℕ) × Consumes left (remaining x.1.reader) bytes
    × IsCauseOf network bytes x.0)
    c.in_err-live.field-0.0 c.from_residual-in_err-live.ensures.1 (
      known.0,
      rw (c.in_ok-registering.ensures.unread, c.new.ensures) at known.1,
      known.2,
    )
