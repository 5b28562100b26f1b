use Rattle.irc_support.proofs.tokens.value.Goals as goal
use Rattle.irc_support.proofs.TokenTable.{lookup-value_of}

pub returns-in_err-value : goal.returns-in_err-value
returns-in_err-value g c =
    rw (c.from_residual.ensures, ← lookup-value_of, ← c.get.ensures.value, c.in_err-value.was)

pub returns-in-Some : goal.returns-in-Some
returns-in-Some g c =
    rw (c.as_slice.ensures.value, ← lookup-value_of)
    (rw (← c.get.ensures.value, c.in_ok-value.was, c.in-Some.is))

pub returns-in-None : goal.returns-in-None
returns-in-None g c =
    rw (← lookup-value_of, ← c.get.ensures.value, c.in_ok-value.was, c.in-None.is)
