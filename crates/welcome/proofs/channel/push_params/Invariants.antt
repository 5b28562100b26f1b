use Rattle.welcome.proofs.channel.push_params.Given as goal
use Rattle.welcome.proofs.Words.{◌++◌, ◌≡◌, filter_map, length, map, modes_at}

abbrev pub invariant-loop-param : goal.invariant-loop-param
invariant-loop-param g l =
    map (λ p. p.now) l.fn.params.items ++ filter_map (λ m. m.1) (modes_at (g.V.NetworkView.view
    l.view) l.i) ≡ map (λ p. p.now) l.params.items ++ filter_map (λ m. m.1) l.modes

abbrev pub decreases-loop-param : goal.decreases-loop-param
decreases-loop-param g l = length l.modes
