use Rattle.std.specs.FinMap as fin
use Rattle.hub_core.proofs.lost.forget.Goals as goal
use Rattle.hub_core.proofs.Words.{bytes_cmp, bytes_exact, empty-shown, joining, nat_list_cmp_total}
use Rattle.{hub_core.proofs.Words.shown, network_tables.proofs.ShownLemmas.remove-shown}
use Rattle.irc_names.specs.CaseMapping.{key_of}

pub returns-in-One : goal.returns-in-One
returns-in-One c = λ k.
    let key = key_of c.in-One.mapping c.in-One.channel.now in
    let kept = remove-shown bytes_cmp joining nat_list_cmp_total bytes_exact in
    rw (c.remove.ensures.all, c.in-One.is, kept c.args.lost.now.all key)
    (fin.get-remove nat_list_cmp_total (shown joining c.args.lost.now.all) key k)

pub returns-in-All : goal.returns-in-All
returns-in-All c = λ k.
    rw (c.clear.ensures, c.in-All.is, empty-shown bytes_cmp joining) (fin.get-empty bytes_cmp k)
