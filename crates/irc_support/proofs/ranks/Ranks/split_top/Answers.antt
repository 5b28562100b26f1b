use Rattle.irc_support.proofs.ranks.Ranks.split_top.Goals as goal
use Rattle.irc_support.proofs.RankSets.{split_of_bits}

pub returns : goal.returns
returns c =
    rw c.without.ensures
    (split_of_bits _ _ c.self.view_is c.if-self-eq0.false c.self.invariant)
