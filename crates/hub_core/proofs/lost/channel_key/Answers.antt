use Rattle.hub_core.proofs.lost.channel_key.Goals as goal
use Rattle.hub_core.proofs.{LostChannels.{key_at, key_here, key_later, key_past}, Words.arith}
use Rattle.{hub_core.proofs.Words.sym, welcome.proofs.Places.letter_at_place}

pub returns-then-letter-eq107 : goal.returns-then-letter-eq107
returns-then-letter-eq107 g c =
    let key = key_here (g.V.NetworkView.view c.args.view.now) c.args.i c.loop-letter.j
    c.in-Some.letter _ (sym c.in-Some.ensures) c.if-letter-eq107.true in
    rw (key_at, ← c.loop-letter.invariant.none_before) (sym key)

pub place_after-j-requires : goal.place_after-j-requires
place_after-j-requires g c =
    letter_at_place (g.V.NetworkView.view c.args.view.now) c.args.i _ _ _ (sym c.in-Some.ensures)

pub loop-letter-smaller : goal.loop-letter-smaller
loop-letter-smaller g c = omega (c.place_after-j.ensures.next, c.place_after-j.ensures.few, arith)

pub loop-letter-preserved : goal.loop-letter-preserved
loop-letter-preserved g c =
    let later = key_later (g.V.NetworkView.view c.args.view.now) c.args.i c.loop-letter.j
    c.in-Some.letter _ (sym c.in-Some.ensures) c.if-letter-eq107.false in
    record {
      few = c.place_after-j.ensures.few;
      none_before =
          rw c.place_after-j.ensures.next (rw later at c.loop-letter.invariant.none_before);
    }

pub returns : goal.returns
returns g c =
    let v = g.V.NetworkView.view c.args.view.now in
    let before = c.loop-letter.invariant.none_before in
    grind (arith, c.mode_at.ensures, c.in_default.is, key_at v, before, key_past v c.args.i)
