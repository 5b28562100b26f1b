use Rattle.hub_core.proofs.hub.Hub.lost_channel_at.Goals as goal
use Rattle.hub_core.proofs.{LostChannels.lost_at_place, Words.arith}

pub returns-in-Some : goal.returns-in-Some
returns-in-Some g c =
    let place = lost_at_place c.self.inside.lost.all _ c.args.i c.self.invariant.0.lost_is in
    grind (arith, place, c.in-Some.ensures, c.self.view_is)

pub returns-in-None : goal.returns-in-None
returns-in-None g c =
    let place = lost_at_place c.self.inside.lost.all _ c.args.i c.self.invariant.0.lost_is in
    grind (arith, place, c.in-None.ensures, c.self.view_is)
