use Rattle.hub_core.proofs.pump.prepare_arrival.Goals as goal
use Rattle.hub_core.proofs.{Kept.kept_if, Words.{arrival_of, option_map, rules, ◌∙◌}}
use Rattle.history.specs.Keeping.{kept_by}

pub returns-clause-made : goal.returns-clause-made
returns-clause-made g c =
    let moment = c.args.incoming.now.moment.0 in (
      c.in_ok-entry.ensures.made ∙ kept_if (kept_by c.args.keeping.now)
          (arrival_of c.args.incoming.now.item.now, moment) c.is_kept-is_kept.result
          (option_map (λ name. name.now) c.ring_heard-ring.result)
          (c.is_kept-is_kept.ensures moment) (c.ring_heard-ring.ensures moment),
      search rules,
      search rules,
    )
