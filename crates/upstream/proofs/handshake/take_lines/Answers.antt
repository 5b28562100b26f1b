use Rattle.upstream.proofs.handshake.take_lines.Goals as goal
use Rattle.{irc_line.proofs.{LinesTaken.from_place, Outcomes.refused_by}, std.proofs.Common.arith}
use Rattle.std.proofs.{Common.{subst, sym, take, ◌++◌}, lemmas.List.take_all}
use Rattle.upstream.proofs.{BegunLemmas.{begins_all, begun_line}, SentLemmas.lines_cause}
use Rattle.upstream.proofs.SentLemmas.{one_behind, sent_step, still_going}
use Rattle.upstream.specs.{Handshake.IsLinesCause, Taken.HasTaken}

pub returns-in_err-take_line-clause-err : goal.returns-in_err-take_line-clause-err
returns-in_err-take_line-clause-err g c = λ network before taken going.
    let lines = c.args.lines.now in
    let so_far = c.loop-place.invariant network before taken going in
    refused_by c.from_residual.result (IsLinesCause network before lines)
    c.in_err-take_line.field-0.0 c.from_residual.ensures.1
    (lines_cause network before lines c.loop-place.place _ c.loop-place-test.true
    c.index-lines-place.is c.in_err-take_line.field-0.0
    (c.in_err-take_line.ensures.err network (before ++ take c.loop-place.place lines) so_far.taken))

pub returns-then-branch-clause-some : goal.returns-then-branch-clause-some
returns-then-branch-clause-some g c = λ network before taken going.
    let lines = c.args.lines.now in
    let i = c.loop-place.place in
    let line = c.index-lines-place.result in
    let within = c.loop-place-test.true in
    let is = c.index-lines-place.is in
    let so_far = c.loop-place.invariant network before taken going in
    let ended = c.in_ok-take_line.ensures.ended network (before ++ take i lines) so_far.taken in
    let sent = c.in_ok-take_line.ensures.sent network (before ++ take i lines) so_far.taken in (
      (line, within, from_place lines i line within is, rw c.if-branch.true at ended),
      sent_step network before lines i line within is _ _ _ so_far.sent sent,
    )

pub loop-place-preserved : goal.loop-place-preserved
loop-place-preserved g c = λ network before taken going.
    let lines = c.args.lines.now in
    let i = c.loop-place.place in
    let line = c.index-lines-place.result in
    let within = c.loop-place-test.true in
    let is = c.index-lines-place.is in
    let so_far = c.loop-place.invariant network before taken going in
    let ended = c.in_ok-take_line.ensures.ended network (before ++ take i lines) so_far.taken in
    let sent = c.in_ok-take_line.ensures.sent network (before ++ take i lines) so_far.taken in
    record {
      taken = subst (λ t. HasTaken network t c.take_line.new.register)
          (sym (one_behind network before lines i line within is))
          (c.in_ok-take_line.ensures.taken network (before ++ take i lines) so_far.taken);
      going = still_going network before lines i line within is so_far.going
          (rw c.if-branch.false at ended);
      sent = sent_step network before lines i line within is _ _ _ so_far.sent sent;
    }

pub returns-clause-none : goal.returns-clause-none
returns-clause-none g c = λ network before taken going.
    let all = take_all c.loop-place.place c.args.lines.now (omega arith) in
    let so_far = rw all at (c.loop-place.invariant network before taken going) in
    (so_far.taken, so_far.going, so_far.sent)

pub returns-in_err-take_line-clause-begun : goal.returns-in_err-take_line-clause-begun
returns-in_err-take_line-clause-begun g c = λ network before taken going.
    let lines = c.args.lines.now in
    let i = c.loop-place.place in
    let so_far = c.loop-place.invariant network before taken going in
    begun_line network before lines i _ _ _ _ c.loop-place-test.true c.index-lines-place.is
    so_far.sent (c.in_err-take_line.ensures.begun network (before ++ take i lines) so_far.taken)

pub returns-then-branch-clause-begun : goal.returns-then-branch-clause-begun
returns-then-branch-clause-begun g c = λ network before taken going.
    let lines = c.args.lines.now in
    let i = c.loop-place.place in
    let so_far = c.loop-place.invariant network before taken going in
    begun_line network before lines i _ _ _ _ c.loop-place-test.true c.index-lines-place.is
    so_far.sent (c.in_ok-take_line.ensures.begun network (before ++ take i lines) so_far.taken)

pub returns-clause-begun : goal.returns-clause-begun
returns-clause-begun g c = λ network before taken going.
    let all = take_all c.loop-place.place c.args.lines.now (omega arith) in
    let so_far = rw all at (c.loop-place.invariant network before taken going) in
    begins_all _ _ _ so_far.sent
