use Rattle.hub_core.proofs.join_keys.drop_asked.Goals as goal
use Rattle.hub_core.proofs.LostChannels.{filter_shown}
use Rattle.hub_core.specs.JoinKeys.{JoinKeyParts, join_key}
use Rattle.hub_core.specs.declared.join_keys.JoinKey.{JoinKey}
use Rattle.std.proofs.Common.{ap, map, rules, ◌∙◌, Bool}
use Rattle.std.proofs.lemmas.Fn.{filter_same}

pub returns : goal.returns
returns c =
    let stays : JoinKeyParts → Bool = λ k. k.known in
    ap (map join_key) (filter_same _ (λ (k : JoinKey). stays (join_key k)) _
    (λ x b f' k. search rules) _ _ c.retain.ensures.filtered)
    ∙ filter_shown join_key stays c.args.keys.now.items
