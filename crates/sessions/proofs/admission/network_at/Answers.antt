use Rattle.sessions.proofs.admission.network_at.Goals as goal
use Rattle.sessions.proofs.Places.{lacks_more, unknown}
use Rattle.std.proofs.lemmas.{Bool.both_ways, List.{take_all, take_more}}

pub loop-one-preserved : goal.loop-one-preserved
loop-one-preserved g c =
    let one = c.one-item.result in
    let more = take_more c.args.networks.now c.loop-one.one-index one c.loop-one-test.true in
    rw (more, ← c.one-item.is) (lacks_more _ one c.args.place c.loop-one.invariant
    (λ same. both_ways c.is_same.result c.if-is_same.false (c.is_same.ensures.1 same)))

pub returns-clause-none : goal.returns-clause-none
returns-clause-none g c =
    let all = take_all c.loop-one.one-index c.args.networks.now c.loop-one-test.false in
    unknown c.args.networks.now c.args.place (rw all at c.loop-one.invariant)
