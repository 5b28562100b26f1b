use Rattle.tape_view.proofs.Words.{◌≡◌, option_or, changes_in, key_by, last_in}
use Rattle.tape_view.proofs.ranks.rank_changed.Given as goal
use Rattle.tape_view.proofs.LineParts.{rank_set}

abbrev pub invariant-loop-change : goal.invariant-loop-change
invariant-loop-change g l =
    let set = rank_set l.support (key_by l.support l.nick) l.rank in
    last_in set (changes_in l.support l.line) ≡ option_or (last_in set l.change-iterator) l.last
