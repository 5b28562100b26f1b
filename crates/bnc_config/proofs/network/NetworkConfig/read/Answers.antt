use Rattle.bnc_config.proofs.FaultLemmas.{network_good, network_keys_bad, network_twice}
use Rattle.bnc_config.proofs.network.NetworkConfig.read.Goals as goal
use Rattle.bnc_config.specs.Document.{key_fault, keys_fault, network_keys, later_fault, text_at}
use Rattle.bnc_config.specs.Document.{twice_fault}
use Rattle.bnc_config.specs.declared.key.Key.TheVariants.{NetworkName}
use Rattle.std.proofs.Common.{drop}
use Rattle.std.proofs.lemmas.Result.{err_from_is_err_and}
use Rattle.toml.specs.View.{table_view}

pub returns-in_err-network-clause-read : goal.returns-in_err-network-clause-read
returns-in_err-network-clause-read c = λ names are.
    let tree = table_view c.args.table.now in
    let p = err_from_is_err_and c.from_residual-in_err-network.result
    c.from_residual-in_err-network.ensures.1 in
    rw (p.1, p.2)
    (network_keys_bad (key_fault tree NetworkName) (keys_fault (drop 1 network_keys) tree)
    (later_fault tree) (twice_fault names (text_at NetworkName tree)) c.in_ok-name.ensures.read.0 _
    c.in_err-network.ensures)

pub returns-in_err-add_new-clause-read : goal.returns-in_err-add_new-clause-read
returns-in_err-add_new-clause-read c = λ names are.
    let tree = table_view c.args.table.now in
    let p = err_from_is_err_and c.from_residual-in_err-add_new.result
    c.from_residual-in_err-add_new.ensures.1 in
    rw (p.1, p.2)
    (network_twice (key_fault tree NetworkName) (keys_fault (drop 1 network_keys) tree)
    (later_fault tree) (twice_fault names (text_at NetworkName tree)) c.in_ok-name.ensures.read.0 _
    c.in_ok-network.ensures.0
    (rw c.in_ok-name.ensures.read.1 at (c.in_err-add_new.ensures.read names are)))

pub returns-clause-read : goal.returns-clause-read
returns-clause-read c = λ names are.
    let tree = table_view c.args.table.now in (
      network_good (key_fault tree NetworkName) (keys_fault (drop 1 network_keys) tree)
          (later_fault tree) (twice_fault names (text_at NetworkName tree))
          c.in_ok-name.ensures.read.0 c.in_ok-network.ensures.0
          (rw c.in_ok-name.ensures.read.1 at (c.in_ok-add_new.ensures.read names are).0),
      rw (c.in_ok-network.ensures.1, c.in_ok-name.ensures.read.1),
    )
