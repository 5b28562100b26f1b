use Rattle.welcome.proofs.groups.channel_names.Given as goal
use Rattle.welcome.proofs.Words.{◌≡◌, channel_names_of, map, take}

abbrev pub invariant-loop-i : goal.invariant-loop-i
invariant-loop-i g l =
    map (λ name. name.now) l.names.items ≡ take l.i (channel_names_of (g.V.NetworkView.view l.view))
