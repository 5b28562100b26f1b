use Rattle.bnc_config.proofs.users.read_users.Given as goal
use Rattle.bnc_config.proofs.ItemsLemmas.{IsReadTo}
use Rattle.bnc_config.specs.Document.{user_in, user_fault, users_fault}
use Rattle.bnc_config.specs.{Names.AreNames, Settings.UserSettings}
use Rattle.std.proofs.Common.{map}

abbrev pub invariant-loop-value : goal.invariant-loop-value
invariant-loop-value l = record {
  named : AreNames l.names (map (λ (n : UserSettings). n.name) l.users.items);
  read : IsReadTo user_in (λ (n : UserSettings). n.name) user_fault users_fault l.values l.value-index l.users.items;
}
