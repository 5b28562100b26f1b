use Rattle.sessions.proofs.arrival.take_lines.Goals as goal
use Rattle.{irc_line.proofs.LinesTaken.{behind, from_place, up_to}, sessions.proofs.Sent.sent_step}
use Rattle.{sessions.{proofs.Sent.still_going}, std.proofs.Common.arith}
use Rattle.std.proofs.{Common.{take, ◌++◌, ◌+◌, ◌≡◌}, lemmas.List.take_all}

pub returns-in-Some-clause-some : goal.returns-in-Some-clause-some
returns-in-Some-clause-some g c = λ before taken going.
    let lines = c.args.lines.now in
    let i = c.loop-place.place in
    let line = c.index-lines-place.result in
    let so_far = c.loop-place.invariant before taken going in
    let ended = c.in_ok-ending.ensures.ended (before ++ take i lines) so_far.taken in
    let sent = c.in_ok-ending.ensures.sent (before ++ take i lines) so_far.taken in (
      (
        line,
        c.loop-place-test.true,
        from_place lines i line c.loop-place-test.true c.index-lines-place.is,
        rw c.in-Some.is at ended,
      ),
      sent_step before (take i lines) (take (i + 1) lines) line _ _ _
          (up_to lines i line c.loop-place-test.true c.index-lines-place.is) so_far.sent sent,
    )

pub loop-place-preserved : goal.loop-place-preserved
loop-place-preserved g c = λ before taken going.
    let lines = c.args.lines.now in
    let i = c.loop-place.place in
    let line = c.index-lines-place.result in
    let so_far = c.loop-place.invariant before taken going in
    let one = up_to lines i line c.loop-place-test.true c.index-lines-place.is in
    let all = behind before (take i lines) (take (i + 1) lines) line one in
    let goes = c.in_ok-ending.ensures.going (before ++ take i lines) so_far.taken in
    let sent = c.in_ok-ending.ensures.sent (before ++ take i lines) so_far.taken in
    record {
      taken = rw all (c.in_ok-ending.ensures.taken (before ++ take i lines) so_far.taken);
      going = rw all
          (still_going (before ++ take i lines) line so_far.going
          (rw c.in_default.is at goes));
      sent = sent_step before (take i lines) (take (i + 1) lines) line _ _ _ one so_far.sent sent;
    }

pub returns-clause-none : goal.returns-clause-none
returns-clause-none g c = λ before taken going.
    let lines = c.args.lines.now in
    let all : take c.loop-place.place lines ≡ lines =
    take_all c.loop-place.place lines (omega arith) in
    let so_far = rw all at (c.loop-place.invariant before taken going) in
    (so_far.taken, so_far.going, so_far.sent)
