use Rattle.figures.proofs.text.push_families.Goals as goal
use Rattle.figures.{proofs.Appended.four_on_ok, specs.Text.families_of}

pub returns : goal.returns
unfolding families_of
returns c =
    four_on_ok c.push_family-4.result _ _ _ _ _ _ _ _ _ c.in_ok-push_family.ensures
    c.in_ok-push_family-2.ensures c.in_ok-push_family-3.ensures c.push_family-4.ensures
