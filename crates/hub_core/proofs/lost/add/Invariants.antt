use Rattle.hub_core.proofs.lost.add.Given as goal
use Rattle.hub_core.proofs.Words.{joining, keyed, length, map, shown, ◌≡◌, ◌≤◌}
use Rattle.{hub_core.specs.LostChannels.put_all, std.specs.Vec.Iter.into_iter_items}

abbrev pub invariant-loop-channel : goal.invariant-loop-channel
invariant-loop-channel l =
    (goal.iterator-loop-channel).can_next l.channel-iterator ×
    (goal.iterator-loop-channel).is_finite l.channel-iterator ×
    (length (into_iter_items l.channel-iterator) ≤ l.lost.spare) ×
    (put_all (shown joining l.fn.lost.all) (map (λ e. keyed e.value) l.fn.new.items)
    ≡ put_all (shown joining l.lost.all)
    (map (λ e. keyed e.value) (into_iter_items l.channel-iterator)))
