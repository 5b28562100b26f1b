use Rattle.hub_core.proofs.state_parts.kept_for.Goals as goal
use Rattle.{hub_core.proofs.{Sets.found, Words.{sym, ◌∙◌, ◌≡◌}}, welcome.specs.Burst.state_part_of}

pub returns-in-Ok : goal.returns-in-Ok
returns-in-Ok g c =
    c.in-Ok.ensures
    ∙ found (λ p. p.caps)
    (λ p set. p.packet ≡ state_part_of (g.V.NetworkView.view c.args.view.now) set)
    c.args.caps c.args.parts.now.items _ c.index.result.now c.requires
    (sym c.place_in.ensures ∙ c.in_ok-place.was) c.index.ensures
