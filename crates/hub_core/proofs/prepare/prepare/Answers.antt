use Rattle.hub_core.proofs.prepare.prepare.Goals as goal
use Rattle.hub_core.proofs.{Sets.one_prepared, Splits.there, Words.{◌<◌, ◌∙◌, ap, arith}}
use Rattle.hub_core.proofs.Words.{arrival_of, given_but, length, length-set, map, packet_for, refl}
use Rattle.hub_core.{proofs.Words.state_of, specs.Given.sets_but}

pub loop-i-preserved : goal.loop-i-preserved
loop-i-preserved g c =
    let state = state_of g.O.Outlet.state in
    let give = given_but c.args.except
    (packet_for (g.V.NetworkView.view c.args.incoming.now.view.now)
    (arrival_of c.args.incoming.now.item.now, c.args.incoming.now.moment.0)) in
    let less : c.loop-i.i < length c.loop-i.sessions.items =
    (let a = c.loop-i-test.true in let b = c.len-i-end.ensures in
    let d = c.loop-i.invariant.long in omega arith) in
    let same = c.index.ensures ∙ there c.loop-i.sessions.items c.loop-i.i c.index.result.now
    c.index_mut.result.now less c.index_mut.ensures.value in
    record {
      prepared = one_prepared state (λ s. s.coming) give c.args.except _ c.loop-i.sessions.items
          (map (λ m. m.caps) c.loop-i.made.items) _ c.loop-i.i c.index_mut.result.now _ less
          c.index_mut.ensures.value refl
          (c.in_ok-coming.ensures.packet ∙ ap (λ s. give (state s)) same)
          (c.in_ok-coming.ensures.sets
          ∙ ap (λ s. sets_but c.args.except (map (λ m. m.caps) c.loop-i.made.items) (state s)) same)
          c.loop-i.invariant.prepared;
      made = c.in_ok-coming.ensures.made;
      long = length-set c.loop-i.sessions.items c.loop-i.i _ ∙ c.loop-i.invariant.long;
    }

pub returns-in_err-coming-clause-states : goal.returns-in_err-coming-clause-states
returns-in_err-coming-clause-states g c = c.loop-i.invariant.prepared.states
