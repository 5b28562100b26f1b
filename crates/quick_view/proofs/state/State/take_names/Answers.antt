use Rattle.quick_view.proofs.state.State.take_names.Goals as goal
use Rattle.{network_tables.specs.Rooms.channel_of, quick_view.specs.Listing.listings_in}
use Rattle.network_tables.proofs.SwapLemmas.{out_is, put_back, put_new, with_members}
use Rattle.quick_view.{proofs.ViewLemmas.listed_is, specs.Kept.view_kept}

pub returns-in-Ok-clause-taken : goal.returns-in-Ok-clause-taken
returns-in-Ok-clause-taken g c =
    let found = rw c.if-not-contains_near.false at c.contains_near.ensures in
    let out = c.swap.ensures.value in
    let put = put_new channel_of _ _ _ _ _ _ _ found c.swap.ensures.all out
    c.swap-in-Ok.ensures.all in
    rw (← c.mapping.ensures) (listed_is (view_kept c.args.self.now) _
    (listings_in c.args.self.now.support c.args.line.now) _ _ _
    (out_is channel_of _ _ _ _ found out)
    (rw (put, c.keep_all.ensures.members, c.in-Ok.ensures.all, c.in_ok-listed.ensures))
    (rw (c.keep_all.ensures.people, c.in_ok-reserve.ensures.all, c.in_ok-listed.ensures)))

pub returns-in-Err-clause-kept : goal.returns-in-Err-clause-kept
returns-in-Err-clause-kept g c =
    let found = rw c.if-not-contains_near.false at c.contains_near.ensures in
    let back = put_back channel_of _ _ _ _ _ _ _ found c.swap.ensures.all c.swap.ensures.value
    c.swap-in-Err.ensures.all (with_members c.swap.new.value c.in-Err.ensures.all) in
    rw (back, c.in_ok-reserve.ensures.all)
