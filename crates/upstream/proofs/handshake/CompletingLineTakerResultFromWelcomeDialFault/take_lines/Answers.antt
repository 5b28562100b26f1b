use Rattle.upstream.proofs.Registered.{ends_so, fails_so, goes_on}
use Rattle.upstream.proofs.handshake.CompletingLineTakerResultFromWelcomeDialFault.take_lines.Goals as goal

pub returns-in-Ok-None-clause-goes_on : goal.returns-in-Ok-None-clause-goes_on
returns-in-Ok-None-clause-goes_on g c began before h =
    let none = rw (c.in-Ok-None.field-0-is, c.as_slice.ensures.value)
    at c.in-Ok-None.ensures.none in
    (h.0, goes_on _ _ _ _ _ before c.args.lines.items h.1 _ none)

pub returns-in-Ok-Some-clause-ends : goal.returns-in-Ok-Some-clause-ends
returns-in-Ok-Some-clause-ends g c began before h =
    let some = rw (c.in-Ok-Some.field-0-is, c.as_slice.ensures.value)
    at c.in-Ok-Some.ensures.some in (
      h.0,
      ends_so _ _ _ _ _ before c.args.lines.items h.1 c.in-Ok-Some.place
          (record { lines = c.drop_front.new.lines }) c.drop_front.ensures some,
    )

pub returns-in-Err-clause-ends : goal.returns-in-Err-clause-ends
returns-in-Err-clause-ends g c began before h =
    let cause = rw c.as_slice.ensures.value at c.in-Err.ensures.err in
    let begun = rw c.as_slice.ensures.value at c.take_lines.ensures.begun in
    (h.0, fails_so _ _ _ _ _ before c.args.lines.items h.1 c.in-Err.fault cause begun)
