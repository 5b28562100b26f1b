use Rattle.welcome.proofs.others.grouped_by.Goals as goal
use Rattle.std.proofs.lemmas.List.{map_more}
use Rattle.welcome.proofs.OthersGrouped.{groups_next, keys_next}
use Rattle.welcome.proofs.Words.{arith, map, take}
use Rattle.welcome.specs.Playing.{group_key}

pub loop-entry-preserved : goal.loop-entry-preserved
loop-entry-preserved g c =
    let key = group_key c.args.sort (g.V.NetworkView.view c.args.view.now) in
    let i = c.loop-entry.entry-index in
    let es = map (λ entry. entry.now) (take i c.args.entries.now) in
    let item = c.entry-item.result in
    let more = map_more (λ entry. entry.now) c.args.entries.now i item (omega arith) in
    let keys = c.loop-entry.keys.keys in
    let next = keys_next key es item.now keys c.insert_full.new.self.keys c.in_ok-key.key
    c.loop-entry.invariant.keys c.in_ok-key.ensures c.in-Ok.ensures.keys in
    let groups = groups_next key es item.now keys c.insert_full.new.self.keys c.in_ok-key.key
    c.loop-entry.invariant.keys c.in_ok-key.ensures _ _ _ c.in-Ok.ensures.index
    c.loop-entry.invariant.groups c.in_ok-put_at.ensures in
    record { keys = grind (arith, more, next, c.entry-item.is); groups = grind (arith, more, groups, c.entry-item.is) }
