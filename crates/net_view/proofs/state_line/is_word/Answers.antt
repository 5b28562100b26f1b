use Rattle.net_view.proofs.state_line.is_word.Goals as goal
use Rattle.{net_view.proofs.Words.is_word, std.proofs.Common.rules}

pub returns-in-empty : goal.returns-in-empty
unfolding is_word
returns-in-empty c = search rules

pub returns-in-empty-2 : goal.returns-in-empty-2
unfolding is_word
returns-in-empty-2 c = search rules

pub returns-in_default : goal.returns-in_default
unfolding is_word
returns-in_default c = search rules
