use Rattle.hub_core.proofs.image_table.shared_packet_for.Goals as goal
use Rattle.hub_core.proofs.{Sets.{found, no_more, one_more}, Words.{arith, arrival_of, map-append}}
use Rattle.hub_core.proofs.Words.{packet_for, rules, sym, ◌≡◌}

pub returns-in-Some-clause-packet : goal.returns-in-Some-clause-packet
returns-in-Some-clause-packet g c =
    let here = found (λ m. m.caps)
    (λ m set. m.packet
    ≡ packet_for (g.V.NetworkView.view c.args.incoming.now.view.now)
    (arrival_of c.args.incoming.now.item.now, c.args.incoming.now.moment.0) set)
    c.args.caps c.args.made.now.items c.in-Some.place c.index.result.now c.requires
    (sym c.in-Some.ensures) c.index.ensures in
    rw here at c.share_of.ensures

pub returns-in-Some-clause-sets : goal.returns-in-Some-clause-sets
returns-in-Some-clause-sets g c =
    let same = no_more (λ m. m.caps) c.args.caps c.args.made.now.items c.in-Some.place
    (sym c.in-Some.ensures) in
    search rules

pub returns-clause-sets : goal.returns-clause-sets
returns-clause-sets g c =
    let none = sym c.in_default.ensures in
    let more = one_more (λ m. m.caps) c.args.caps c.args.made.now.items none in
    grind (arith, c.in_ok-push.ensures.items, map-append, more)
