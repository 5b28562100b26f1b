use Rattle.bnc_config.proofs.users.read_users.Goals as goal
use Rattle.bnc_config.proofs.ItemsLemmas.{read_fails, read_more, read_past}
use Rattle.bnc_config.proofs.users.read_users.Goals.{in-Some+in_ok-read+in_ok-push, in_default}
use Rattle.{bnc_config.specs.Document.user_in, std.proofs.Common.{[], ◌++◌, ◌∷◌, ◌≡◌}}
use Rattle.std.proofs.lemmas.{List.map-append, Result.err_from_is_err_and}
use Rattle.toml.specs.View.{table_view}

pub returns-in_err-read : goal.returns-in_err-read
returns-in_err-read c =
    let p = err_from_is_err_and c.from_residual.result c.from_residual.ensures.1 in
    rw (p.1, p.2)
    (read_fails _ _ _ _ c.loop-value.invariant.read c.loop-value-test.true c.value-item.is
    c.in-Some.ensures (c.in_err-read.ensures.read _ c.loop-value.invariant.named))

pub loop-value-preserved : goal.loop-value-preserved
loop-value-preserved c = elim c.match-as_table.branch [
  | in-Some+in_ok-read+in_ok-push w ↦
      let named = c.loop-value.invariant.named in
      let read = w.in_ok-read.ensures.read _ named in
      let items : c.match-as_table.users.items
      ≡ c.loop-value.users.items ++ user_in (table_view w.in-Some.table.now) ∷ [] =
      rw (w.users-is, w.in_ok-push.ensures.items, read.1) in
      record {
        named = rw (w.names-is, items, map-append) (w.in_ok-read.ensures.named _ named);
        read = read_more _ _ _ _ c.loop-value.invariant.read c.loop-value-test.true c.value-item.is
            w.in-Some.ensures read.0 items;
      }
  | in_default w ↦
      rw (w.names-is, w.users-is) (record {
        named = c.loop-value.invariant.named;
        read = read_past _ _ _ _ c.loop-value.invariant.read c.loop-value-test.true c.value-item.is
            w.in_default.ensures;
      })
]
