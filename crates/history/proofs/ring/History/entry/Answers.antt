use Rattle.history.proofs.ring.History.entry.Goals as goal
use Rattle.std.proofs.Common.{arith}
use Rattle.std.proofs.lemmas.Iterator.Consumers.{YieldsList-from_rest, nth_from_yields_List}

pub returns : goal.returns
returns g c =
    let at =
    nth_from_yields_List _ _ _ c.nth.ensures.ran (YieldsList-from_rest _ c.iter.ensures.rest) in
    grind (arith, at)

pub returns-in_err-entry : goal.returns-in_err-entry
returns-in_err-entry g c =
    let at =
    nth_from_yields_List _ _ _ c.nth.ensures.ran (YieldsList-from_rest _ c.iter.ensures.rest) in
    grind (arith, at)
