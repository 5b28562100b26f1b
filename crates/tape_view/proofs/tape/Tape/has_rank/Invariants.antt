use Rattle.tape_view.proofs.tape.Tape.has_rank.Given as goal
use Rattle.tape_view.proofs.{LastLine.IsLeft, Words.{key, length, rank_decided}}

abbrev pub invariant-loop-said : goal.invariant-loop-said
invariant-loop-said g l =
    IsLeft l.tape l.channel
    (rank_decided l.self.readings (key l.self l.channel) (key l.self l.nick) l.rank)
    (rank_decided l.tape.readings (key l.tape l.channel) (key l.tape l.name) l.rank)

abbrev pub decreases-loop-said : goal.decreases-loop-said
decreases-loop-said g l = length l.tape.readings
