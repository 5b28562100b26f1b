use Rattle.tape_view.proofs.tape.Tape.ranks.Given as goal
use Rattle.tape_view.proofs.{GatheredRanks.{below, held}, Words.{ranks_that, ◌≡◌}}

abbrev pub invariant-loop-rank : goal.invariant-loop-rank
invariant-loop-rank g l =
    l.ranks ≡ ranks_that (below (held l.self l.channel l.nick) l.rank)
