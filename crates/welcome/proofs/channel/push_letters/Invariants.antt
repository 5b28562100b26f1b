use Rattle.welcome.proofs.channel.push_letters.Given as goal
use Rattle.welcome.proofs.Words.{◌++◌, ◌≡◌, length, map, modes_at}

abbrev pub invariant-loop-letter : goal.invariant-loop-letter
invariant-loop-letter g l =
    l.fn.letters.items ++ map (λ m. m.0) (modes_at (g.V.NetworkView.view l.view) l.i)
    ≡ l.letters.items ++ map (λ m. m.0) l.modes

abbrev pub decreases-loop-letter : goal.decreases-loop-letter
decreases-loop-letter g l = length l.modes
