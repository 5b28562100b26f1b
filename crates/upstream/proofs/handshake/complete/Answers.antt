use Rattle.upstream.proofs.handshake.complete.Goals as goal
use Rattle.{irc_line.proofs.Outcomes.refused_by, std.proofs.Common.{◌∙◌, refl, subst, sym}}
use Rattle.{std.proofs.KnownBytes.Appends-nil, upstream.proofs.Registered.{FailsBy, came_to}}
use Rattle.upstream.proofs.Registered.{not_read}
use Rattle.upstream.specs.declared.handshake.DialFault.TheVariants.{Memory}

pub read_from_start-end-requires-clause-begins : goal.read_from_start-end-requires-clause-begins
read_from_start-end-requires-clause-begins g c = (
  refl,
  λ network taken. record { taken = taken; going = refl; sent = Appends-nil _ },
)

pub returns-in_err-buffer-clause-err : goal.returns-in_err-buffer-clause-err
returns-in_err-buffer-clause-err g c = λ network taken.
    let left = g.R.Read.remaining c.args.reader.now in
    let was = g.W.Write.contents c.args.writer.now in
    refused_by c.from_residual.result (FailsBy network left left was was) Memory
    c.from_residual.ensures.1 (not_read network left was)

pub returns-in_err-lines-clause-err : goal.returns-in_err-lines-clause-err
returns-in_err-lines-clause-err g c = λ network taken.
    let left = g.R.Read.remaining in
    let read = c.read_from_start-end in
    let fault = c.in_err-lines.field-0.0 in
    let known = came_to _ _ _ _ _ _ _ _ read.result.0 _ read.ensures
    (sym c.outcome.ensures ∙ c.in_err-lines.was) in
    refused_by c.from_residual-in_err-lines.result
    (FailsBy network (left c.args.reader.now) (left read.new.reader)
    (g.W.Write.contents c.args.writer.now) (g.W.Write.contents c.writer-1.given.0))
    fault c.from_residual-in_err-lines.ensures.1
    (subst (λ w. FailsBy network (left c.args.reader.now) (left read.new.reader)
    (g.W.Write.contents c.args.writer.now) (g.W.Write.contents w) fault)
    (sym (c.writer-1.given.1 (sym known.0))) (known.1 network taken))

pub returns-clause-ok : goal.returns-clause-ok
returns-clause-ok g c = λ network taken.
    let read = c.read_from_start-end in
    let known = came_to _ _ _ _ _ _ _ _ read.result.0 _ read.ensures
    (sym c.outcome.ensures ∙ c.in_ok-lines.was) in
    rw (c.writer-1.given.1 (sym known.0)) (known.1 network taken)
