use Rattle.first_settings.proofs.writing.push_network.Goals as goal
use Rattle.first_settings.{proofs.Appended.four_on_ok, specs.Written.network_lines}

pub returns : goal.returns
unfolding network_lines
returns c =
    four_on_ok c.push_join.result _ _ _ _ _ _ _ _ _ c.in_ok-extend_from_slice.ensures.items
    c.in_ok-push_line.ensures c.in_ok-push_names.ensures c.push_join.ensures
