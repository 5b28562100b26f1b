use Rattle.hub_core.proofs.join_keys.ask_all.Given as goal
use Rattle.hub_core.specs.JoinKeys.{ask_all, items_of, join_keys, paired}
use Rattle.std.proofs.Common.{length, ◌+◌, ◌≡◌}
use Rattle.std.specs.Option.{option_map, option_map_or}

-- the channels that are left
abbrev pub invariant-loop-name : goal.invariant-loop-name
invariant-loop-name l =
    ask_all l.mapping (paired (items_of (option_map (λ n. n.now) l.names))
    (items_of (option_map (λ w. w.now) l.words))) (join_keys l.keys.items)
    ≡ ask_all l.mapping (paired (items_of (option_map (λ n. n.now) l.initial.names))
    (items_of (option_map (λ w. w.now) l.initial.words))) (join_keys l.initial.keys.items)

abbrev pub decreases-loop-name : goal.decreases-loop-name
decreases-loop-name l = option_map_or (λ n. length n.now + 1) l.names 0
