use Rattle.welcome.proofs.settings.push_tokens.Goals as goal
use Rattle.welcome.proofs.Words.{◌++◌, ◌∙◌, ◌≡◌, ap, codes, false, from_bouncer, length, map}
use Rattle.welcome.proofs.Words.{map-append, nat_eq, on_ok_weaker, sym, take_all, written}

pub returns : goal.returns
returns g c =
    let all = take_all c.loop-token.token-index c.args.tokens.now c.loop-token-test.false in
    let params = rw (map-append, c.loop-token.invariant.items, all) at
    (ap (map (λ p. p.now)) (c.deref.ensures.value ∙ c.push_reserved-2.ensures.items)) in
    let some : nat_eq (length c.args.tokens.now) 0 ≡ false = sym c.is_empty.ensures
    ∙ c.if-is_empty.false in on_ok_weaker c.push_reply.result (λ said. rw some (said ∙ ap (λ ps.
    c.args.text.now.items ++ written (from_bouncer (codes "005") ps)) params)) c.push_reply.ensures
