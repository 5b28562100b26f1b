use Rattle.sessions.proofs.arrival.take_line.Goals as goal
use Rattle.{sessions.{proofs.Sent.sent_by, specs.Answers.is_end}, std.proofs.Common.{ap, sym}}
use Rattle.std.proofs.KnownBytes.{Appends-nil}

pub returns-in_ok-send-in-Send-clause-sent : goal.returns-in_ok-send-in-Send-clause-sent
returns-in_ok-send-in-Send-clause-sent g c = λ before taken.
    sent_by _ _ (rw c.in-Send.is at (c.in_ok-lines.ensures.answer before taken))
    (rw c.as_slice.ensures.value at c.in_ok-send-in-Send.ensures.sent)

pub returns-in_ok-send-in-Send-clause-going : goal.returns-in_ok-send-in-Send-clause-going
returns-in_ok-send-in-Send-clause-going g c = λ before taken.
    ap is_end (sym (rw c.in-Send.is at (c.in_ok-lines.ensures.answer before taken)))

pub returns-in-Done-clause-sent : goal.returns-in-Done-clause-sent
returns-in-Done-clause-sent g c = λ before taken.
    sent_by _ _ (rw c.in-Done.is at (c.in_ok-lines.ensures.answer before taken))
    (Appends-nil _)

pub returns-in-Done-clause-ended : goal.returns-in-Done-clause-ended
returns-in-Done-clause-ended g c = λ before taken.
    sym (rw c.in-Done.is at (c.in_ok-lines.ensures.answer before taken))

pub returns-in_ok-send-in-Closed-clause-sent : goal.returns-in_ok-send-in-Closed-clause-sent
returns-in_ok-send-in-Closed-clause-sent g c = λ before taken.
    sent_by _ _ (rw c.in-Closed.is at (c.in_ok-lines.ensures.answer before taken))
    (rw c.as_slice-in-Closed.ensures.value at c.in_ok-send-in-Closed.ensures.sent)

pub returns-in_ok-send-in-Closed-clause-ended : goal.returns-in_ok-send-in-Closed-clause-ended
returns-in_ok-send-in-Closed-clause-ended g c = λ before taken. (
  c.in-Closed.lines.items,
  sym (rw c.in-Closed.is at (c.in_ok-lines.ensures.answer before taken)),
)
