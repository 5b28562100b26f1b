use Rattle.irc_support.proofs.support.kinds_in.Goals as goal

pub returns : goal.returns
returns g c letter fits = rw (c.kinds_by_lists.ensures letter fits, c.value_or.ensures)
