use Rattle.sessions.proofs.arrival.log_in.Goals as goal
use Rattle.{irc_line.proofs.Outcomes.refused_by, sessions.proofs.LoginRead.came_to}
use Rattle.{sessions.specs.Logins.IsCauseOf, std.proofs.Common.{◌∙◌, List, refl, sym, ℕ}}
use Rattle.std.{proofs.KnownBytes.Appends-nil, specs.Io.KnownBytes.Consumes}

pub read_from_start-end-requires-clause-begins : goal.read_from_start-end-requires-clause-begins
read_from_start-end-requires-clause-begins g c = (
  refl,
  record { taken = c.new-login.ensures; going = refl; sent = Appends-nil _ },
)

pub returns-in_err-ending-clause-err : goal.returns-in_err-ending-clause-err
returns-in_err-ending-clause-err g c =
    let left = g.R.Read.remaining in
    let fault = c.in_err-ending.field-0.0 in
    refused_by c.from_residual-in_err-ending.result
    (λ f. (bytes : List ℕ)
    × Consumes (left c.args.reader.now) (left c.read_from_start-end.new.reader) bytes
    × IsCauseOf bytes f)
    fault c.from_residual-in_err-ending.ensures.1
    (came_to _ _ _ _ _ _ _ _ c.read_from_start-end.result.0 _ c.read_from_start-end.ensures
    (sym c.outcome.ensures ∙ c.in_err-ending.was))

pub returns-clause-ok : goal.returns-clause-ok
returns-clause-ok g c =
    let read = c.read_from_start-end in
    let known = came_to _ _ _ _ _ _ _ _ read.result.0 _ read.ensures
    (sym c.outcome.ensures ∙ c.in_ok-ending.was) in
    rw (c.writer-1.given.1 (sym known.0)) known.1
