use Rattle.sessions.proofs.admission.admitted.Goals as goal
use Rattle.{sessions.{proofs.Places.admits_by, specs.Claims.parts_of}, std.proofs.Common.rules}

pub returns : goal.returns
returns c =
    admits_by c.args.config.now (parts_of c.args.claim.now) c.as_slice.result.now
    c.as_slice-2.result.now c.as_slice-3.result.now c.as_slice-4.result.now c.find.result
    c.as_slice.ensures.value c.as_slice-2.ensures.value c.as_slice-3.ensures.value
    c.as_slice-4.ensures.value c.find.ensures
    (c.password_matches.ensures.0 c.if-not-password_matches.false)

pub returns-then-not-password_matches : goal.returns-then-not-password_matches
returns-then-not-password_matches c = search rules
