use Rattle.hub_core.proofs.hub.Hub.begin.Goals as goal
use Rattle.hub_core.proofs.{Running.started_runs, Words.{bytes_cmp, empty-shown, joining, rules}}
use Rattle.hub_core.{proofs.Words.{subst, sym}, specs.StateParts.AreStateParts}

pub invariant_of-result : goal.invariant_of-result
invariant_of-result g c = (
  rw (
    c.requires.view,
    c.requires.inlet,
    c.new.ensures.items,
    c.new-3.ensures,
    c.none.ensures,
    empty-shown bytes_cmp joining,
  ) (started_runs _ _ _ c.args.past.history c.args.first c.args.past.marks _ _ c.requires.upstream
      (search rules) c.requires.kept),
  subst (AreStateParts (g.V.NetworkView.view c.args.view)) (sym c.new-4.ensures.items) tt,
)
