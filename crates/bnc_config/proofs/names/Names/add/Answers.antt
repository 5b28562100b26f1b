use Rattle.std.proofs.lemmas.Map.Text.{hash_map_updates_str}
use Rattle.bnc_config.proofs.NamesLemmas.{found_after}
use Rattle.bnc_config.proofs.names.Names.add.Goals as goal

pub returns-clause-added : goal.returns-clause-added
returns-clause-added c = λ earlier are name.
    let after =
    hash_map_updates_str c.args.name.now c.args.self.now.seen c.insert.new.self _
    c.in_ok-earlier.ensures.updates name in
    rw after (found_after name c.args.name.now earlier _ (are name))
