use Rattle.welcome.proofs.groups.empty_groups.Given as goal
use Rattle.welcome.proofs.Words.{◌+◌, ◌≡◌, [], length, map, replicate, vec_capacity, vec_len}

abbrev pub invariant-loop : goal.invariant-loop
invariant-loop g l = record {
  items : map (λ group. map (λ entry. entry.now) group.items) l.groups.items
      ≡ replicate l.index [];
  len : vec_len l.groups ≡ l.index;
  capacity : vec_capacity l.groups ≡ length l.names + 1;
}
