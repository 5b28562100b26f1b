use Rattle.quick_view.proofs.state.State.take_nick.Goals as goal
use Rattle.{irc_support.specs.Settings.key_by, net_view.proofs.AfterRename.after_no_rename}
use Rattle.net_view.{proofs.AfterRename.after_rename, specs.Changes.renamed_channel}
use Rattle.{net_view.specs.Names.{bytes_cmp, name_of}, network_tables.proofs.ShownLemmas.get-shown}
use Rattle.{quick_view.{proofs.TakeLemmas.on_ok, specs.Kept.view_kept}, std.proofs.Common.sym}

pub returns-then-is_us-clause-taken : goal.returns-then-is_us-clause-taken
returns-then-is_us-clause-taken g c = on_ok c.rename.result c.rename.ensures.taken (λ e sound sets.
    let v = view_kept c.args.self.now in
    let old = key_by v.settings c.args.old.now in
    let new = name_of v.settings c.args.new.now in
    let ours = rw c.is_us.ensures at c.if-is_us.true in
    let moved = get-shown bytes_cmp (renamed_channel old new.key) v.channels in
    rw (after_rename v sets sound.known old new (rw ours) _ moved, ours) (e sound.known))

pub returns-then-is_us-2-clause-taken : goal.returns-then-is_us-2-clause-taken
returns-then-is_us-2-clause-taken g c = λ sound sets.
    let v = view_kept c.args.self.now in
    let others = rw c.is_us.ensures at c.if-is_us.false in
    let onto_ours = rw c.is_us-2.ensures at c.if-is_us-2.true in
    sym (after_no_rename v sets sound.known (key_by v.settings c.args.old.now)
    (name_of v.settings c.args.new.now) (rw (others, onto_ours)))

pub returns-clause-taken : goal.returns-clause-taken
returns-clause-taken g c = on_ok c.rename-2.result c.rename-2.ensures.taken (λ e sound sets.
    let v = view_kept c.args.self.now in
    let old = key_by v.settings c.args.old.now in
    let new = name_of v.settings c.args.new.now in
    let others = rw c.is_us.ensures at c.if-is_us.false in
    let not_ours = rw c.is_us-2.ensures at c.if-is_us-2.false in
    let moved = get-shown bytes_cmp (renamed_channel old new.key) v.channels in
    rw (after_rename v sets sound.known old new (rw (others, not_ours)) _ moved, others)
    (e sound.known))
