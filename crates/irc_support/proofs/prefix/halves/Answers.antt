use Rattle.irc_support.proofs.prefix.halves.Goals as goal
use Rattle.irc_support.proofs.Spelling.{none_of_split, none_without_close, none_without_open}
use Rattle.{irc_support.proofs.Spelling.some_of_split, std.proofs.Common.sym}

pub returns-in_err-rest-clause-value : goal.returns-in_err-rest-clause-value
returns-in_err-rest-clause-value c =
    rw c.from_residual.ensures (none_without_open c.args.value.now c.in_err-rest.ensures.none)

pub returns-in_err-symbols-clause-value : goal.returns-in_err-symbols-clause-value
returns-in_err-symbols-clause-value c =
    rw c.from_residual-in_err-symbols.ensures
    (none_without_close _ _ _ _ c.in_ok-rest.ensures.found c.saturating_sub.ensures
    c.split_at.ensures.back c.in_err-symbols.ensures.none)

pub returns-then-is_a_ranking-clause-value : goal.returns-then-is_a_ranking-clause-value
returns-then-is_a_ranking-clause-value c =
    some_of_split _ _ _ _ _ _ c.in_ok-rest.ensures.found c.saturating_sub.ensures
    c.split_at.ensures.front c.split_at.ensures.back c.in_ok-symbols.ensures.found
    (sym c.if-is_a_ranking.ensures)

pub returns-else-is_a_ranking-clause-value : goal.returns-else-is_a_ranking-clause-value
returns-else-is_a_ranking-clause-value c =
    none_of_split _ _ _ _ _ _ c.in_ok-rest.ensures.found c.saturating_sub.ensures
    c.split_at.ensures.front c.split_at.ensures.back c.in_ok-symbols.ensures.found
    (sym c.if-is_a_ranking.ensures)
