use Rattle.welcome.proofs.groups.grouped.Given as goal
use Rattle.welcome.proofs.Words.{◌≡◌, grouped_by, map, take}

abbrev pub invariant-loop-entry : goal.invariant-loop-entry
invariant-loop-entry g l =
    map (λ group. map (λ entry. entry.now) group.items) l.groups.items ≡ grouped_by l.mapping
    (map (λ name. name.now) l.names) (map (λ entry. entry.now) (take l.entry-index l.entries))
