use Rattle.welcome.proofs.others.push_groups_from.Given as goal
use Rattle.welcome.proofs.Words.{◌++◌, ◌+◌, ◌≡◌, drop, flat_map, map, written}
use Rattle.welcome.specs.{Playing.groups_lines, Times.stamped}

abbrev pub invariant-loop-place : goal.invariant-loop-place
invariant-loop-place g l =
    l.text.items ++ flat_map written (groups_lines l.sort (g.V.NetworkView.view l.view) l.caps
    (l.first + l.place) (map (λ group. stamped l.times l.caps (map (λ entry. entry.now)
    group.items)) (drop l.place l.groups))) ≡ l.fn.text.items ++ flat_map written (groups_lines
    l.sort (g.V.NetworkView.view l.view) l.caps l.first (map (λ group. stamped l.times l.caps
    (map (λ entry. entry.now) group.items)) l.groups))
