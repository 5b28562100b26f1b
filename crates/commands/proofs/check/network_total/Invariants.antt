use Rattle.std.proofs.Common.{◌≡◌, ◌*◌, ◌≤◌, length, sum_by, take}
use Rattle.bnc_config.specs.Settings.{UserSettings}
use Rattle.commands.proofs.check.network_total.Given as goal

abbrev pub invariant-loop-user : goal.invariant-loop-user
invariant-loop-user l = record {
  counted : l.total
      ≡ sum_by (λ (user : UserSettings). length user.networks) (take l.user-index l.user-items);
  small : l.total ≤ l.user-index * 18446744073709551615;
}
