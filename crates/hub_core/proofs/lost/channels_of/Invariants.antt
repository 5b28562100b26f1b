use Rattle.hub_core.proofs.lost.channels_of.Given as goal
use Rattle.hub_core.{proofs.Words.{keyed, map, take, ◌≡◌}, specs.LostChannels.channels_of_view}

abbrev pub invariant-loop-i : goal.invariant-loop-i
invariant-loop-i g l =
    map (λ e. keyed e.value) l.channels.items
    ≡ take l.i (channels_of_view (g.V.NetworkView.view l.view))
