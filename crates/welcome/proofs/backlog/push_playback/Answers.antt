use Rattle.welcome.proofs.backlog.push_playback.Goals as goal
use Rattle.welcome.proofs.{PlaybackWhole.{arranged_right, has_place, in_order, places_right}, Words.arith}
use Rattle.welcome.proofs.Words.{length, map, on_ok_weaker}

pub grouped-requires : goal.grouped-requires
grouped-requires g c =
    let source = c.comes_from_lines.ensures in
    let order = in_order (g.V.NetworkView.view c.args.view.now) source.0 source.2 in
    rw (c.mapping.ensures, c.support.ensures, c.deref.ensures.value, c.in_ok-names.ensures) order

pub push_groups-requires : goal.push_groups-requires
push_groups-requires g c =
    rw (c.deref-2.ensures.value, ← c.deref.ensures.value, c.deref-3.ensures.value) (has_place _ _
    c.mapping.result c.deref.result.now (map (λ entry. entry.now) c.args.entries.now)
    (length c.deref.result.now) c.in_ok-groups.ensures (omega arith))

pub returns-clause-said : goal.returns-clause-said
returns-clause-said g c =
    let source = c.comes_from_lines.ensures in
    let right = arranged_right (g.V.NetworkView.view c.args.view.now) source.0 source.2
    c.args.playing c.args.caps (map (λ entry. entry.now) c.args.entries.now) in
    on_ok_weaker c.push_groups.result (λ said.
    let groups = rw (c.deref-2.ensures.value, c.deref-3.ensures.value, c.in_ok-groups.ensures)
    at said in let names = rw (c.deref.ensures.value, c.in_ok-names.ensures) at groups
    in rw (c.mapping.ensures, c.support.ensures, right) at names) c.push_groups.ensures.said

pub returns-clause-few : goal.returns-clause-few
returns-clause-few g c =
    let source = c.comes_from_lines.ensures in
    let right = places_right (g.V.NetworkView.view c.args.view.now) source.0 source.2
    c.args.playing c.args.caps (map (λ entry. entry.now) c.args.entries.now) in
    on_ok_weaker c.push_groups.result (λ few.
    let groups = rw (c.deref-2.ensures.value, c.deref-3.ensures.value, c.in_ok-groups.ensures)
    at few in let names = rw (c.deref.ensures.value, c.in_ok-names.ensures) at groups
    in rw (c.mapping.ensures, c.support.ensures, right) at names) c.push_groups.ensures.few
