use Rattle.tape_view.proofs.members.word_of.Given as goal
use Rattle.tape_view.proofs.{LineParts.word_said, Words.{key_by, last_in, option_map, option_or}}
use Rattle.tape_view.proofs.Words.{shown_member, words_in, ◌≡◌}

abbrev pub invariant-loop-ranks : goal.invariant-loop-ranks
invariant-loop-ranks g l =
    let said = word_said l.support (key_by l.support l.nick) in
    last_in said (words_in l.support l.line)
    ≡ option_or (last_in said l.ranks-iterator)
    (option_map (λ w. shown_member (w.ranks, w.nick)) l.last)
