use Rattle.welcome.proofs.backlog.push_backlogs.Given as goal
use Rattle.welcome.proofs.Words.{◌++◌, ◌≡◌, backlogs_of, drop, flat_map, map, written}
use Rattle.welcome.specs.Times.{stamped}

abbrev pub invariant-loop-place : goal.invariant-loop-place
invariant-loop-place g l =
    l.text.items ++ flat_map written (backlogs_of l.caps l.place (map (λ name. name.now) (drop
    l.place l.names)) (map (λ group. stamped l.times l.caps (map (λ entry. entry.now) group.items))
    (drop l.place l.groups))) ≡ l.fn.text.items ++ flat_map written (backlogs_of l.caps 0
    (map (λ name. name.now) l.names) (map (λ group. stamped l.times l.caps
    (map (λ entry. entry.now) group.items)) l.groups))
