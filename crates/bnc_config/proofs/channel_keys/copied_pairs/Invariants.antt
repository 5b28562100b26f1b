use Rattle.bnc_config.proofs.channel_keys.copied_pairs.Given as goal
use Rattle.bnc_config.specs.Allowed.{all_members, is_text_where}
use Rattle.bnc_config.specs.Document.{pairs_of}
use Rattle.bnc_config.specs.Text.{is_channel_key}
use Rattle.std.proofs.Common.{◌++◌, ◌≡◌}
use Rattle.toml.specs.View.{members_view, table_view}

abbrev pub invariant-loop-name : goal.invariant-loop-name
invariant-loop-name l = record {
  can : (goal.iterator-loop-name).can_next l.name-iterator;
  finite : (goal.iterator-loop-name).is_finite l.name-iterator;
  allowed : all_members (is_text_where is_channel_key) (table_view l.table)
      ≡ all_members (is_text_where is_channel_key) (members_view l.name-iterator);
  copied : pairs_of (table_view l.table) ≡ l.pairs.items ++ pairs_of (members_view l.name-iterator);
}
