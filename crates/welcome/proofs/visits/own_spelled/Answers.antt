use Rattle.welcome.proofs.visits.own_spelled.Goals as goal
use Rattle.welcome.proofs.{OwnSpelling.spelling_of, Words.{◌∙◌, ap, option_map, refl, sym}}

pub returns : goal.returns
returns g c =
    let from = c.comes_from_lines.ensures in
    spelling_of (g.V.NetworkView.view c.args.view.now) from.0 c.in_ok-own.own.now from.2
    (sym c.own.ensures ∙ ap (option_map (λ nick. nick.now)) c.in_ok-own.was)
    c.spelled_there.result c.in_ok-own.own c.unwrap_or.result c.unwrap_or.ensures refl
    c.spelled_there.ensures
