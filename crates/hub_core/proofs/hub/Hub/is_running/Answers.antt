use Rattle.hub_core.proofs.hub.Hub.is_running.Goals as goal
use Rattle.hub_core.proofs.Running.{each_agrees}

-- the running fact says itself of which view it is, whether online, and what was lost
pub returns-clause-running : goal.returns-clause-running
returns-clause-running g c =
    let run = c.self.invariant.0 in
    rw (← c.self.view_is, ← run.view_is, ← run.online_is, ← run.lost_is) run

pub returns-clause-agree : goal.returns-clause-agree
returns-clause-agree g c = rw (← c.self.view_is) (each_agrees _ _ c.self.invariant.0.fit)

pub returns-clause-bounded : goal.returns-clause-bounded
returns-clause-bounded g c =
    rw (← c.self.view_is) (record {
      sessions = c.self.invariant.0.seated;
      names = c.count-names.ensures.few;
      targets = c.target_count-targets.ensures.few;
      persons = c.person_count-persons.ensures.few;
      messages = c.can_come_again.ensures;
    })
