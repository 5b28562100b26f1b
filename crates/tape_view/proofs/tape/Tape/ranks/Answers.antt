use Rattle.tape_view.proofs.tape.Tape.ranks.Goals as goal
use Rattle.tape_view.proofs.{GatheredRanks.{all_below, held, rank_left, rank_put}, Words.arith}
use Rattle.tape_view.proofs.tape.Tape.ranks.Goals.{else-has_rank, then-has_rank}

pub loop-rank-preserved : goal.loop-rank-preserved
loop-rank-preserved g c =
    let test = held c.args.self.now c.args.channel.now c.args.nick.now in
    elim c.if-has_rank.branch [
      | then-has_rank w ↦ cc (rank_put test _ _ c.loop-rank.invariant (cc c.has_rank.ensures))
      | else-has_rank w ↦ cc (rank_left test c.loop-rank.rank (cc c.has_rank.ensures))
    ]

pub returns : goal.returns
returns g c = grind (arith, all_below (held c.args.self.now c.args.channel.now c.args.nick.now))
