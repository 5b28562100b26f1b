use Rattle.irc_support.proofs.tokens.edits.Goals as goal
use Rattle.std.proofs.{Common.{◌-◌, length}, lemmas.Iterator.YieldsList-from_take}
use Rattle.std.proofs.lemmas.Iterator.{Adapters.YieldsList-from_skip, Consumers.YieldsList-at}
use Rattle.std.proofs.lemmas.Iterator.Consumers.{YieldsList-end, YieldsList-from_first}
use Rattle.std.proofs.lemmas.List.{map_push, Sums.fold-append}

pub loop-param-preserved-in-Continue-branch-3 : goal.loop-param-preserved-in-Continue-branch-3
loop-param-preserved-in-Continue-branch-3 g c settings =
    rw (c.in_ok-push.ensures.items, map_push (λ p. p.now) c.loop-param.yielded c.in-Some.param)
    (rw (fold-append, fold-append, c.loop-param.invariant settings)
    (rw c.in-Some-2.is at c.in_ok-edit.ensures _))

pub loop-param-preserved : goal.loop-param-preserved
loop-param-preserved g c settings =
    rw (map_push (λ p. p.now) c.loop-param.yielded c.in-Some.param, fold-append)
    (rw (c.loop-param.invariant settings) (rw c.in_default.is at c.in_ok-edit.ensures _))

pub returns : goal.returns
returns g c settings =
    let all =
    YieldsList-from_first (λ p. p.now) (λ left. left) c.args.line.now.params c.params.ensures in
    let behind =
    YieldsList-from_skip 1 (YieldsList-at c.skip.ensures.source all) c.skip.ensures.count in
    let tokens =
    YieldsList-from_take (length c.args.line.now.params - 2)
    (YieldsList-at c.take-param-items.ensures.source behind) cc in
    let taken =
    YieldsList-end (YieldsList-at c.into_iter-param-iterator.ensures.into_iter_gives tokens)
    c.loop-param.yielded _ c.loop-param.yielded_by _ c.next.new.self c.in-None.is
    c.next.ensures.steps in
    rw (← taken.0) (c.loop-param.invariant settings)
