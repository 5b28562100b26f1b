use Rattle.irc_support.proofs.laws.letters_and_symbols_go_together.Goals as goal
use Rattle.irc_support.proofs.{RankPlaces.{few, ranking_of-is}, Spelling.paired}
use Rattle.{irc_support.specs.Ranking.ranking_of, std.proofs.Common.arith}
use Rattle.std.proofs.lemmas.{List.Quantifiers.position-Some, Option.slice_get-get_or}

pub returns-clause-small : goal.returns-clause-small
returns-clause-small c settings letter rank found =
    let within = (position-Some _ (ranking_of settings).letters rank 0 found).0 in
    let small = (few (ranking_of settings) (ranking_of-is settings)).0 in
    omega arith

pub returns-clause-letter : goal.returns-clause-letter
returns-clause-letter c settings letter rank found =
    let within = (position-Some _ (ranking_of settings).letters rank 0 found).0 in
    let same = paired (ranking_of settings) (ranking_of-is settings) in
    (_, slice_get-get_or (ranking_of settings).symbols rank 0 (omega arith))
