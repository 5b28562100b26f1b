use Rattle.sessions.proofs.arrival.LoggingInLineTakerResultLastLineLoginFault.take_lines.Goals as goal
use Rattle.sessions.proofs.LoginRead.{ends_login, goes_on}

pub returns-in-Ok-None-clause-goes_on : goal.returns-in-Ok-None-clause-goes_on
returns-in-Ok-None-clause-goes_on g c began before h =
    let known = rw (c.in-Ok-None.field-0-is, c.as_slice.ensures.value)
    at (c.in-Ok-None.ensures.none before h.1.taken h.1.going) in (
      h.0,
      goes_on _ _ _ c.args.self.now.login.now _ before c.args.lines.items h.1 known.0 known.1
          known.2,
    )

pub returns-in-Ok-Some-clause-ends : goal.returns-in-Ok-Some-clause-ends
returns-in-Ok-Some-clause-ends g c began before h =
    let i = c.in-Ok-Some.place in
    let known = rw (c.in-Ok-Some.field-0-is, c.as_slice.ensures.value)
    at (c.in-Ok-Some.ensures.some before h.1.taken h.1.going) in (
      h.0,
      ends_login _ _ _ c.args.self.now.login.now before c.args.lines.items i
          (record { ending = c.in-Ok-Some.ending; behind = c.leave_behind.new.lines }) h.1 known.0
          known.1 c.leave_behind.ensures,
    )
