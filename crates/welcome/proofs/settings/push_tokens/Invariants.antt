use Rattle.welcome.proofs.settings.push_tokens.Given as goal
use Rattle.welcome.proofs.Words.{◌+◌, ◌∷◌, ◌≡◌, length, map, take, vec_capacity, vec_len}

abbrev pub invariant-loop-token : goal.invariant-loop-token
invariant-loop-token g l = record {
  items : map (λ p. p.now) l.params.items
      ≡ l.nick ∷ map (λ t. t.items) (take l.token-index l.tokens);
  len : vec_len l.params ≡ l.token-index + 1;
  capacity : vec_capacity l.params ≡ length l.tokens + 2;
}
