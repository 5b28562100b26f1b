use Rattle.irc_support.proofs.support.Support.split_symbols.Goals as goal
use Rattle.{irc_support.proofs.SymbolRun.{reads_more, uncons}, std.proofs.Common.{get_or, sym}}

pub loop-rest-preserved : goal.loop-rest-preserved
loop-rest-preserved g c =
    let rest = c.loop-rest.rest.now in
    reads_more _ _ _ _ (get_or rest 0 0) _ _ _ (uncons rest 0 c.in-len1-up.len_at_least)
    (sym c.in-Some.ensures.value) c.with-ranks.ensures c.loop-rest.invariant
