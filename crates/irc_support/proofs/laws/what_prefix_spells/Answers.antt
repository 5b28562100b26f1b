use Rattle.irc_support.proofs.Spelling.{spelled_by_sound, spelled_by_complete}
use Rattle.irc_support.proofs.laws.what_prefix_spells.Goals as goal

pub returns-clause-read : goal.returns-clause-read
returns-clause-read c value ranks = (spelled_by_sound value ranks, spelled_by_complete value ranks)

pub returns-clause-one : goal.returns-clause-one
returns-clause-one c value ranks others first second =
    let is = spelled_by_complete value ranks first in
    let are = spelled_by_complete value others second in
    cc
