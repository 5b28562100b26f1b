use Rattle.hub_core.proofs.deliver.deliver.Goals as goal
use Rattle.hub_core.proofs.{Walk.{all_done, begun, cuts_on, goes_on}, Words.{arith, rules}}

pub loop-place-init : goal.loop-place-init
loop-place-init g c = record {
  walk = rw c.len-place.ensures (begun _ _ _ c.args.sessions.now.items _ (search rules));
  count = search rules;
  within = search rules;
}

pub loop-place-preserved-then-not-send_coming-3 : goal.loop-place-preserved-then-not-send_coming-3
loop-place-preserved-then-not-send_coming-3 g c = record {
  walk = rw c.remove-gone.ensures.items (cuts_on _ _ _ _ _ _ _ c.send_coming.new.self
      c.loop-place.invariant.walk c.loop-place-test.true c.index_mut.ensures.value
      c.if-not-send_coming.ensures.sent);
  count = omega arith;
  within = omega arith;
}

pub loop-place-preserved : goal.loop-place-preserved
loop-place-preserved g c = record {
  walk = goes_on _ _ _ _ _ _ _ c.send_coming.new.self c.loop-place.invariant.walk
      c.loop-place-test.true c.index_mut.ensures.value c.if-not-send_coming.ensures.sent
      c.if-not-send_coming.ensures.same c.if-not-send_coming.ensures.none;
  count = search rules;
  within = search rules;
}

pub returns-clause-all : goal.returns-clause-all
returns-clause-all g c = (all_done _ _ _ _ _ _ (omega arith) c.loop-place.invariant.walk).0

pub returns-clause-done : goal.returns-clause-done
returns-clause-done g c = (all_done _ _ _ _ _ _ (omega arith) c.loop-place.invariant.walk).1
