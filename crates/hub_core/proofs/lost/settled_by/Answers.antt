use Rattle.std.specs.FinMap as fin
use Rattle.hub_core.proofs.lost.settled_by.Goals as goal
use Rattle.hub_core.proofs.LostChannels.{filter_as}
use Rattle.hub_core.proofs.Words.{Received, ap, arith, bytes_cmp, empty-shown, joining}
use Rattle.hub_core.proofs.Words.{map, refl}
use Rattle.hub_core.specs.LostChannels.{is_named, stays}
use Rattle.{net_view.specs.StateLines.{told}, std.proofs.Common.not}

pub returns-then-is_empty-clause-lost : goal.returns-then-is_empty-clause-lost
returns-then-is_empty-clause-lost g c = λ k.
    let none = fin.empty_of_len c.args.lost.now.all in
    let empty = empty-shown bytes_cmp joining in
    grind (arith, none, fin.len-entries, c.len.ensures, c.if-len-eq0.true, empty, fin.get-empty)

pub returns-in-Lost-clause-lost : goal.returns-in-Lost-clause-lost
unfolding told
returns-in-Lost-clause-lost g c = λ k. rw c.in-Lost.is refl

pub returns-in-Lost-clause-recalled : goal.returns-in-Lost-clause-recalled
unfolding told
returns-in-Lost-clause-recalled g c = rw c.in-Lost.is refl

pub returns-in-Line-clause-recalled : goal.returns-in-Line-clause-recalled
returns-in-Line-clause-recalled g c =
    rw c.in-Line.is (filter_as (λ channel. not (is_named c.settled_by_line.result channel.0))
    (stays (g.V.NetworkView.view c.args.view.now) (Received c.in-Line.line))
    (λ channel. ap not (c.settled_by_line.ensures.named channel.0))
    (map joining c.args.recalled.now.items))
