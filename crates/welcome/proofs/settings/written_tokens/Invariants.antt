use Rattle.welcome.proofs.settings.written_tokens.Given as goal
use Rattle.welcome.proofs.Words.{◌≡◌, ◌≤◌, length, map, take, token_text, vec_capacity, vec_len}

abbrev pub invariant-loop-place : goal.invariant-loop-place
invariant-loop-place g l = record {
  items : map (λ t. t.items) l.texts.items ≡ take l.place (map token_text l.support);
  len : vec_len l.texts ≤ l.place;
  capacity : vec_capacity l.texts ≡ length l.support;
}
