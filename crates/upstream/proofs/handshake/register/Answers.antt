use Rattle.upstream.proofs.handshake.register.Goals as goal
use Rattle.irc_line.{proofs.Outcomes.{err_more, ok_more, refused_by}, specs.Lines.lines_of}
use Rattle.{irc_line.specs.Writing.bytes_of, std.proofs.Common.{List, [], subst, ℕ}}
use Rattle.std.{proofs.KnownBytes.Consumes-nil, specs.Io.KnownBytes.{Appends, Consumes}}
use Rattle.upstream.proofs.Nicks.{own_nick}
use Rattle.upstream.specs.{Registration.first_lines, Taken.HasTaken}
use Rattle.upstream.proofs.BegunLemmas.{begun_all, begun_first, cause_of_none}
use Rattle.upstream.{proofs.Registered.all_welcomed, specs.Handshake.{Begins, IsCauseOf, all_sent}}

pub returns-clause-ok : goal.returns-clause-ok
returns-clause-ok g c =
    let network = c.args.network.now in
    let own = own_nick network c.nick.result.now c.nick.ensures.value in
    let taken = subst (λ n. HasTaken n [] c.in_ok-register.register) own
    c.in_ok-register.ensures.taken in
    let sent = subst (λ n. Appends (g.W.Write.contents c.args.writer.now)
    (g.W.Write.contents c.open.new.writer) (bytes_of (first_lines n))) own
    c.in_ok-register.ensures.sent in
    ok_more _ _ c.complete.result
    (λ w. all_welcomed network _ _ _ _ _ w.lines.items w.splitter sent)
    (c.complete.ensures.ok network taken)

pub returns-in_err-register-clause-err : goal.returns-in_err-register-clause-err
returns-in_err-register-clause-err g c =
    let network = c.args.network.now in
    let own = own_nick network c.nick.result.now c.nick.ensures.value in
    let begun = subst (λ n. Begins (g.W.Write.contents c.args.writer.now)
    (g.W.Write.contents c.open.new.writer) (bytes_of (first_lines n))) own
    c.in_err-register.ensures.begun in
    let fault = c.in_err-register.field-0.0 in
    let left = g.R.Read.remaining c.args.reader.now in
    refused_by c.from_residual.result
    (λ f. (bytes : List ℕ) × Consumes left left bytes × IsCauseOf network bytes f
    × Begins (g.W.Write.contents c.args.writer.now) (g.W.Write.contents c.open.new.writer)
    (bytes_of (all_sent network (lines_of bytes))))
    fault c.from_residual.ensures.1 (
      [],
      Consumes-nil left,
      cause_of_none network fault c.in_err-register.ensures.err,
      begun_first network [] _ _ begun,
    )

pub returns-clause-err : goal.returns-clause-err
returns-clause-err g c =
    let network = c.args.network.now in
    let own = own_nick network c.nick.result.now c.nick.ensures.value in
    let taken = subst (λ n. HasTaken n [] c.in_ok-register.register) own
    c.in_ok-register.ensures.taken in
    let sent = subst (λ n. Appends (g.W.Write.contents c.args.writer.now)
    (g.W.Write.contents c.open.new.writer) (bytes_of (first_lines n))) own
    c.in_ok-register.ensures.sent in
    err_more _ _ c.complete.result (λ fault known. (
      known.0,
      known.1,
      known.2,
      begun_all network (lines_of known.0) _ _ _ sent known.3,
    )) (c.complete.ensures.err network taken)
