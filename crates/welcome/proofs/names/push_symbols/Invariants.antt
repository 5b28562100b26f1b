use Rattle.welcome.proofs.names.push_symbols.Given as goal
use Rattle.welcome.proofs.Words.{◌++◌, ◌≡◌, symbols_of}

abbrev pub invariant-loop-rank : goal.invariant-loop-rank
invariant-loop-rank g l =
    let settings = (g.V.NetworkView.view l.view).settings in l.word.items
    ++ symbols_of settings l.rank-iterator ≡ l.fn.word.items ++ symbols_of settings l.fn.ranks
