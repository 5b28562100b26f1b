use Rattle.hub_runs.proofs.items.take_lines.Given as goal
use Rattle.{hub_runs.specs.Worlds.TakesAll, net_view.specs.Arrival.Received}
use Rattle.std.proofs.Common.{◌++◌, ◌+◌, ◌≡◌, ◌≤◌, length, map, vec_capacity, vec_len}
use Rattle.std.specs.Vec.Iter.{DrainKeeps, drain_items}

abbrev pub invariant-loop-line : goal.invariant-loop-line
invariant-loop-line g l = (goal.iterator-loop-line g).can_next l.line-iterator
    × (goal.iterator-loop-line g).is_finite l.line-iterator
    × DrainKeeps l.initial.line-iterator l.line-iterator
    × (l.yielded ++ drain_items l.line-iterator ≡ l.fn.lines.items)
    × (vec_len l.pumped + length (drain_items l.line-iterator) ≤ vec_capacity l.pumped)
    × TakesAll l.initial.hub
    (map (λ line. (Received line, l.moment.0)) l.yielded) l.pumped.items l.hub
