use Rattle.welcome.proofs.channel.push_channel.Goals as goal
use Rattle.welcome.proofs.{Places.lines_of_lent, PlaybackWhole.{added, and_added, line_added}}
use Rattle.welcome.proofs.Words.{◌++◌, ◌∙◌, ap, join_line, lent, names_end, on_ok_weaker}

pub returns-in_ok-push_names-in-Some : goal.returns-in_ok-push_names-in-Some
returns-in_ok-push_names-in-Some g c =
    let v = g.V.NetworkView.view c.args.view.now in
    let ch = lent c.in-Some.channel in
    let shown = rw c.in-Some.is at c.channel_at.ensures in on_ok_weaker c.push_names_end.result
    (λ said. (and_added (line_added (join_line v c.args.caps ch) c.in_ok-push_join-in-Some.ensures)
    (and_added (added c.in_ok-push_topic-in-Some.ensures) (and_added
    (added c.in_ok-push_modes-in-Some.ensures) (and_added (added c.in_ok-push_names-in-Some.ensures)
    (line_added (names_end v ch) said))))).is ∙ ap (λ t. c.args.text.now.items ++ t) (lines_of_lent
    v c.args.caps c.in-Some.channel _ shown.name shown.topic)) c.push_names_end.ensures
