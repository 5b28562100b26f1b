use Rattle.tape_view.proofs.ranks.rank_changed.Goals as goal
use Rattle.tape_view.proofs.{LineParts.{last_found, rank_set}, Words.arith}

pub loop-change-init : goal.loop-change-init
loop-change-init g c = grind arith

pub loop-change-preserved-in-Some-rank_in_change : goal.loop-change-preserved-in-Some-rank_in_change
loop-change-preserved-in-Some-rank_in_change g c = grind arith

pub loop-change-preserved : goal.loop-change-preserved
loop-change-preserved g c = grind arith

pub returns : goal.returns
returns g c = search (arith, rank_set, last_found)
