use Rattle.irc_support.proofs.ranks.Ranks.top.Goals as goal
use Rattle.{irc_support.proofs.RankSets.{itself, top_of_bits}, std.proofs.Common.refl}

pub returns : goal.returns
returns c =
    let top = top_of_bits _ _ c.self.view_is c.if-self-eq0.false c.self.invariant in
    rw top.1 (record {
      value = refl;
      empty = (λ e. cc, λ none. cc);
      within = rw (itself _) refl;
      highest = top.2;
    })
