use Rattle.net_view.proofs.facts.the_last_word.Goals as goal
use Rattle.net_view.proofs.LastWord.{last_found, found_last, last_of_found, found_last_of}
use Rattle.net_view.proofs.LastWord.{known_found, found_known}

pub returns : goal.returns
returns g c =
    search (last_found, found_last, last_of_found, found_last_of, known_found, found_known)
