use Rattle.hub_core.proofs.upkeep.all_nearly_full.Goals as goal
use Rattle.hub_core.proofs.{Walk.{found_more, freed_not, one_more}, Words.{arith, length}}
use Rattle.hub_core.proofs.Words.{length-set, rules, state_of, ◌<◌, ◌∙◌}

pub loop-place-init : goal.loop-place-init
loop-place-init g c =
    record { freed = freed_not g.O.Outlet.alone _; long = search rules; found = search rules }

pub returns-in_err-push_if-clause-sessions : goal.returns-in_err-push_if-clause-sessions
returns-in_err-push_if-clause-sessions g c =
    let within : c.loop-place.place < length c.loop-place.sessions.items =
    omega (arith, c.loop-place-test.true, c.len-place-end.ensures, c.loop-place.invariant.long) in
    one_more (state_of g.O.Outlet.state) g.O.Outlet.alone _ _ _ c.index_mut-session.result.now _
    within c.index_mut-session.ensures.value c.is_nearly_full-is_full.ensures.state
    c.is_nearly_full-is_full.ensures.found c.loop-place.invariant.freed

pub loop-place-preserved : goal.loop-place-preserved
loop-place-preserved g c =
    let within : c.loop-place.place < length c.loop-place.sessions.items =
    omega (arith, c.loop-place-test.true, c.len-place-end.ensures, c.loop-place.invariant.long) in
    let more = found_more (state_of g.O.Outlet.state) g.O.Outlet.alone c.loop-place.sessions.items
    c.loop-place.place c.is_nearly_full-is_full.new.session c.loop-place.numbers.items in
    record {
      freed = one_more (state_of g.O.Outlet.state) g.O.Outlet.alone _ _ _
          c.index_mut-session.result.now _ within c.index_mut-session.ensures.value
          c.is_nearly_full-is_full.ensures.state c.is_nearly_full-is_full.ensures.found
          c.loop-place.invariant.freed;
      long = length-set c.loop-place.sessions.items _ _ ∙ c.loop-place.invariant.long;
      found = c.in_ok-push_if.ensures ∙ more c.is_nearly_full-is_full.result within
          c.is_nearly_full-is_full.ensures.value c.loop-place.invariant.found;
    }
