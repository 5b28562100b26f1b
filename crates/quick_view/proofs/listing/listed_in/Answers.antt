use Rattle.quick_view.proofs.listing.listed_in.Goals as goal
use Rattle.{irc_names.specs.Nick.is_nameable, irc_support.specs.{NamesReply.Word, Tokens.Token}}
use Rattle.{net_view.specs.StateLines.listing, std.proofs.Common.{List, false, ◌∷◌, ◌≡◌}}
use Rattle.std.{proofs.lemmas.List.append-nil, specs.List.filter_map}

passed_over : (s : List Token) (w : Word) (ws : List Word) → is_nameable w.nick ≡ false
    → filter_map (listing s) (w ∷ ws) ≡ filter_map (listing s) ws
passed_over s w ws refused = rw refused

pub loop-ranks-init : goal.loop-ranks-init
loop-ranks-init g c =
    rw (c.new-listed.ensures.items, c.into_iter-ranks-iterator.ensures.into_iter_gives)
    (rw c.names-ranks-items.ensures)

pub loop-ranks-preserved : goal.loop-ranks-preserved
loop-ranks-preserved g c =
    let over = passed_over c.args.support.now
    (record { ranks = c.in-Some.ranks; nick = c.in-Some.name.now }) c.next.new.self
    (rw c.is_nameable.ensures at c.if-is_nameable.false) in
    rw (c.loop-ranks.invariant, c.in-Some.ensures.steps, over)

pub returns : goal.returns
returns g c = rw (c.loop-ranks.invariant, (c.in-None.ensures.steps).0, append-nil)
