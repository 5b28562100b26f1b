use Rattle.irc_support.proofs.support.Support.rank_of_symbol.Goals as goal

pub returns-clause-value : goal.returns-clause-value
returns-clause-value g c =
    rw (c.rank_of_symbol.ensures.value, c.self.invariant.0, c.self.view_is)
