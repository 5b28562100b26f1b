use Rattle.hub_core.proofs.lost.push_channel.Goals as goal
use Rattle.hub_core.proofs.{LostChannels.{added, none_added, sound_view}, Words.{ap, keyed, map}}
use Rattle.hub_core.proofs.Words.{map-append, rules, ◌++◌, ◌∙◌}

pub returns-in_ok-push : goal.returns-in_ok-push
returns-in_ok-push g c =
    let v = g.V.NetworkView.view c.args.view.now in
    let folded = rw (c.mapping.ensures, c.support.ensures) at c.in_ok-folded.ensures in
    rw (c.in_ok-push.ensures.items, map-append) (ap (λ l. map (λ e. keyed e.value)
    c.args.channels.now.items ++ l) (search rules ∙ added v (sound_view v c.comes_from_lines.ensures)
    c.args.i c.in-Some.channel.name.now c.in_ok-folded.folded.items c.in_ok-name.name.items _
    c.in-Some.ensures.name folded (search rules) (c.in_ok-key.ensures ∙ c.channel_key.ensures)))

pub returns-in_default : goal.returns-in_default
returns-in_default g c =
    none_added (g.V.NetworkView.view c.args.view.now) c.args.i
    (map (λ e. keyed e.value) c.args.channels.now.items) c.in_default.ensures.name
