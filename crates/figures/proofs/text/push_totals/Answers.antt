use Rattle.figures.proofs.text.push_totals.Goals as goal
use Rattle.figures.{proofs.Appended.four_on_ok, specs.Text.totals_of}

pub returns : goal.returns
unfolding totals_of
returns c =
    four_on_ok c.push_total-4.result _ _ _ _ _ _ _ _ _ c.in_ok-push_total.ensures
    c.in_ok-push_total-2.ensures c.in_ok-push_total-3.ensures c.push_total-4.ensures
