use Rattle.history.proofs.ring.History.person_count.Goals as goal
use Rattle.history.specs.{Messages.{kept_with, target_key, persons_held}, Retained.targets}
use Rattle.std.proofs.{Common.{ap, arith, length, reverse, true, ◌∙◌}, lemmas.List.length-map}

pub returns-clause-count : goal.returns-clause-count
returns-clause-count g c =
    c.count.ensures.count ∙ ap (λ r. length r.rings) c.self.invariant.persons
    ∙ length-map (targets target_key (reverse (kept_with true c.self.inside.kept))) _
    ∙ ap persons_held c.self.view_is

pub returns-clause-few : goal.returns-clause-few
returns-clause-few g c =
    let same = returns-clause-count g c in
    omega (arith, same, c.count.ensures.count, c.count.ensures.few)
