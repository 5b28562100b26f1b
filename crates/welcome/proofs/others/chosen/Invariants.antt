use Rattle.welcome.proofs.others.chosen.Given as goal
use Rattle.welcome.proofs.Words.{◌≡◌, filter, map, take}
use Rattle.welcome.specs.Playing.{is_of}

abbrev pub invariant-loop-entry : goal.invariant-loop-entry
invariant-loop-entry g l =
    map (λ entry. entry.now) l.those.items ≡ filter (is_of l.sort (g.V.NetworkView.view l.view))
    (map (λ entry. entry.now) (take l.entry-index l.entries))
