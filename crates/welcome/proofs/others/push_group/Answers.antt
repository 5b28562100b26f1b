use Rattle.welcome.proofs.others.push_group.Goals as goal
use Rattle.welcome.proofs.OthersGrouped.{group_in_batch, group_plain}
use Rattle.welcome.proofs.Words.{◌∙◌, on_ok_weaker, sym}

pub returns-then-can_name : goal.returns-then-can_name
returns-then-can_name g c =
    let v = g.V.NetworkView.view c.args.view.now in
    on_ok_weaker c.push_named_group.result (λ said. group_in_batch c.args.sort v c.args.times
    c.args.caps c.args.place c.args.group.now c.in-Some.first.now c.name_by-name.result.now _ _
    c.in-Some.ensures.value c.name_by-name.ensures (sym c.can_name.ensures ∙ c.if-can_name.true) said)
    c.push_named_group.ensures

pub returns-else-can_name : goal.returns-else-can_name
returns-else-can_name g c =
    let v = g.V.NetworkView.view c.args.view.now in
    on_ok_weaker c.push_group_entries.result (λ said. group_plain c.args.sort v c.args.times
    c.args.caps c.args.place c.args.group.now c.in-Some.first.now c.name_by-name.result.now _ _
    c.in-Some.ensures.value c.name_by-name.ensures (sym c.can_name.ensures ∙ c.if-can_name.false) said)
    c.push_group_entries.ensures
