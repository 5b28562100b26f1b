use Rattle.hub_core.proofs.hub.Hub.lost_channel_count.Goals as goal
use Rattle.hub_core.proofs.{LostChannels.count_is, Words.{ap, heard, lost_channels, ◌∙◌}}

pub returns : goal.returns
returns g c =
    c.len.ensures
    ∙ count_is c.self.inside.lost.all _
    (c.self.invariant.0.lost_is ∙ ap (λ h. lost_channels (heard h)) c.self.view_is)
