use Rattle.quick_view.proofs.state.State.take_mode.Goals as goal
use Rattle.{irc_names.specs.CaseMapping.key_of, quick_view.specs.Moding.{letters_in, modes_in}}
use Rattle.net_view.proofs.AfterModes.{after_mode, after_mode_elsewhere}
use Rattle.network_tables.{proofs.SwapLemmas.{none_is, out_is, put_new}, specs.Rooms.channel_of}
use Rattle.{quick_view.{proofs.TakeLemmas.on_ok, specs.Kept.view_kept}, std.proofs.Common.sym}

pub returns-then-swap-clause-taken : goal.returns-then-swap-clause-taken
returns-then-swap-clause-taken g c =
    on_ok c.change_room-changed.result c.change_room-changed.ensures.changed (λ h sets known.
    let s = c.args.self.now.support in
    let k = key_of c.mapping.result c.args.channel.now in
    let new = c.change_room-changed.new.room in
    let found = rw c.if-swap.true at c.swap.ensures.found in
    let there = out_is channel_of _ k _ _ found c.swap.ensures.value in
    let m = h (sets k _ (sym there)) in
    let after = after_mode (view_kept c.args.self.now) sets known k (letters_in s c.args.line.now)
    (modes_in s c.args.line.now) (channel_of c.swap.new.value) (sym there) new.modes
    new.members.all m.modes m.members in
    let put = put_new channel_of _ _ _ _ _ _ _ found c.swap.ensures.all c.swap.ensures.value
    c.swap-then-swap.ensures.all in
    rw (← c.mapping.ensures, after, put, m.name, m.topic))

pub returns-clause-taken : goal.returns-clause-taken
returns-clause-taken g c = λ sets known.
    let s = c.args.self.now.support in
    let k = key_of c.mapping.result c.args.channel.now in
    let none = rw c.if-swap.false at c.swap.ensures.found in
    let after = after_mode_elsewhere (view_kept c.args.self.now) sets known k
    (letters_in s c.args.line.now) (modes_in s c.args.line.now)
    (sym (none_is channel_of _ _ none)) in
    rw (← c.mapping.ensures, after, c.swap.ensures.all, ← none)
