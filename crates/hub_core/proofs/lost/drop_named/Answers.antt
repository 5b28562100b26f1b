use Rattle.std.proofs.lemmas.Fn.{filter_same}
use Rattle.hub_core.proofs.lost.drop_named.Goals as goal
use Rattle.hub_core.proofs.{LostChannels.filter_shown, Words.{ap, joining, map, rules, ◌∙◌}}
use Rattle.hub_core.specs.{LostChannels.is_named, declared.lost.LostChannel.LostChannel}
use Rattle.std.proofs.Common.{not}

pub returns : goal.returns
returns c =
    ap (map joining) (filter_same _ (λ (x : LostChannel). not (is_named c.args.settled (joining x).0))
    _ (λ x b f' k. search rules) _ _ c.retain.ensures.filtered)
    ∙ filter_shown joining (λ channel. not (is_named c.args.settled channel.0)) _
