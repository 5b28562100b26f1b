use Rattle.tape_view.proofs.Words.{◌≡◌, ◌≤◌, ◌-◌, option_map, key_in, key_at, table_len}
use Rattle.tape_view.proofs.tape.Tape.count.Given as goal

abbrev pub invariant-loop-at : goal.invariant-loop-at
invariant-loop-at g l = record {
  within : l.count ≤ table_len l.self l.table;
  here : key_in l.self.settings (option_map (λ n. n.now) l.at) ≡ key_at l.self l.table l.count;
}

abbrev pub decreases-loop-at : goal.decreases-loop-at
decreases-loop-at g l = table_len l.self l.table - l.count
