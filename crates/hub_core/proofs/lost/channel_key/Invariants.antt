use Rattle.hub_core.proofs.lost.channel_key.Given as goal
use Rattle.hub_core.proofs.{LostChannels.key_in, Words.{drop, ◌-◌, ◌≡◌, ◌≤◌}}
use Rattle.welcome.specs.Lent.{modes_at}

abbrev pub invariant-loop-letter : goal.invariant-loop-letter
invariant-loop-letter g l = record {
  few : l.j ≤ 256;
  none_before : key_in (drop l.j (modes_at (g.V.NetworkView.view l.view) l.i))
      ≡ key_in (modes_at (g.V.NetworkView.view l.view) l.i);
}

abbrev pub decreases-loop-letter : goal.decreases-loop-letter
decreases-loop-letter g l = 256 - l.j
