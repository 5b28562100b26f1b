use Rattle.welcome.proofs.others.grouped_by.Given as goal
use Rattle.welcome.proofs.{OthersGrouped.texts, Words.{◌≡◌, map, take}}
use Rattle.welcome.specs.Playing.{firsts, group_key, groups_by}

abbrev pub invariant-loop-entry : goal.invariant-loop-entry
invariant-loop-entry g l = record {
  keys : texts l.keys.keys ≡ firsts (group_key l.sort (g.V.NetworkView.view l.view))
      (map (λ entry. entry.now) (take l.entry-index l.entries));
  groups : map (λ group. map (λ entry. entry.now) group.items) l.groups.items
      ≡ groups_by (group_key l.sort (g.V.NetworkView.view l.view))
      (map (λ entry. entry.now) (take l.entry-index l.entries));
}
