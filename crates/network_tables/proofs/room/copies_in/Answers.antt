use Rattle.network_tables.proofs.room.copies_in.Goals as goal
use Rattle.{irc_support.specs.Text.Text, std.{proofs.lemmas.List.map-append, specs.Bool.then_some}}
use Rattle.network_tables.{proofs.EachLemmas.copies_more, specs.Sought.sought_key}
use Rattle.std.{proofs.Common.{◌≡◌, Bool, Bor, None, Some, arith, cond}, specs.Option.option_map}

lent : (b : Bool) (key : Bor Text)
    → option_map (λ t. t.now) (then_some b key) ≡ cond b (Some key.now) None
lent b key = grind arith

pub loop-place-preserved : goal.loop-place-preserved
loop-place-preserved g c =
    let within = rw c.len-place-end.ensures at c.loop-place-test.true in
    let more = copies_more c.args.key.now (sought_key c.args.who) _ _ _ within c.at.ensures in
    rw (more, c.in_ok-push_back.ensures.items, map-append, c.loop-place.invariant)
    (rw (c.in_ok-copy.ensures, c.then_some.ensures, lent, c.contains_by-is_member.ensures)
    (rw c.deref.ensures))
