use Rattle.bnc_config.proofs.lists.copied_texts.Given as goal
use Rattle.bnc_config.specs.Allowed.{all_items, allows_text, is_text_where}
use Rattle.bnc_config.specs.Document.{texts_of}
use Rattle.{std.proofs.Common.{drop, ◌++◌, ◌≡◌}, toml.specs.View.items_view}

abbrev pub invariant-loop-value : goal.invariant-loop-value
invariant-loop-value l = record {
  allowed : all_items (is_text_where (allows_text l.key)) (items_view l.values)
      ≡ all_items (is_text_where (allows_text l.key)) (items_view (drop l.value-index l.values));
  copied : texts_of (items_view l.values)
      ≡ l.texts.items ++ texts_of (items_view (drop l.value-index l.values));
}
