use Rattle.tape_view.proofs.Words.{arith}
use Rattle.tape_view.proofs.tape.Tape.spelled.Goals as goal

pub returns-then-not-is_on : goal.returns-then-not-is_on
returns-then-not-is_on g c us marked =
    grind (arith, c.in-Joined.is, c.is_on.ensures, c.if-not-is_on.true)

pub returns-then-is_same : goal.returns-then-is_same
returns-then-is_same g c us marked =
    grind (arith, c.in-Joined.is, c.is_on.ensures, c.is_same.ensures, c.if-is_same.true)
