use Rattle.bnc_config.proofs.networks.read_networks.Given as goal
use Rattle.bnc_config.proofs.ItemsLemmas.{IsReadTo}
use Rattle.bnc_config.specs.Document.{network_in, network_fault, networks_fault}
use Rattle.bnc_config.specs.{Names.AreNames, Settings.NetworkSettings}
use Rattle.std.proofs.Common.{map}

abbrev pub invariant-loop-value : goal.invariant-loop-value
invariant-loop-value l = record {
  named : AreNames l.names (map (λ (n : NetworkSettings). n.name) l.networks.items);
  read : IsReadTo network_in (λ (n : NetworkSettings). n.name) network_fault networks_fault l.values l.value-index l.networks.items;
}
