use Rattle.welcome.proofs.settings.push_settings.Goals as goal
use Rattle.welcome.proofs.{TokenRows.{has_room, token_begins, token_goes, tokens_end}, Words.◌+◌}
use Rattle.welcome.proofs.Words.{◌-◌, ◌<◌, ◌∙◌, ◌≡◌, arith, cond, length, nat_lt, nat_tests}
use Rattle.welcome.proofs.Words.{on_ok_weaker, sym}

pub loop-place-preserved : goal.loop-place-preserved
loop-place-preserved g c =
    let place = c.loop-place.place in
    let len = c.loop-place.len in
    let w = c.index-token.result.now in
    let within : place < length c.in_ok-tokens.tokens.items =
    omega (arith, c.in_ok-tokens.tokens.ok.0) in
    let has : c.has_token_room.result ≡ has_room (place - c.loop-place.start) len w.items = cc in
    let bytes : c.if-start-place.len ≡ cond (nat_lt c.if-not-has_token_room.start place)
    (len + 1 + length w.items) (length w.items) =
    elim c.if-start-place.branch [
      | goal.then-start-place u ↦ grind (arith, nat_tests, u.len-is, u.len.ensures, w.ok.0)
      | goal.else-start-place u ↦ grind (arith, nat_tests, u.len-is, u.len-len.ensures, w.ok.0)
    ] in
    elim c.if-not-has_token_room.branch [
      | goal.then-not-has_token_room+in_ok-push_tokens u ↦
          rw (u.text-is, u.start-is) (token_begins within c.index-token.ensures
          c.loop-place.invariant (sym has ∙ u.if-not-has_token_room.true)
          (rw u.deref-then-not-has_token_room.ensures.value at u.in_ok-push_tokens.ensures)
          (rw u.start-is at bytes))
      | goal.else-not-has_token_room u ↦
          rw (u.text-is, u.start-is) (token_goes within c.index-token.ensures c.loop-place.invariant
          (sym has ∙ u.if-not-has_token_room.false) (rw u.start-is at bytes))
    ]

pub returns : goal.returns
returns g c =
    let end : c.loop-place.place ≡ length c.in_ok-tokens.tokens.items
    = omega (arith, c.in_ok-tokens.tokens.ok.0) in on_ok_weaker c.push_tokens-2.result (λ pushed.
    tokens_end c.loop-place.invariant end (rw (c.deref-2.ensures.value, ← end) at pushed) ∙ rw
    (c.own_nick-nick.ensures, c.in_ok-tokens.ensures, c.support.ensures)) c.push_tokens-2.ensures
