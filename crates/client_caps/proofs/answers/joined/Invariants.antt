use Rattle.client_caps.proofs.answers.joined.Given as goal
use Rattle.{client_caps.proofs.JoinedTexts.joined_on, std.proofs.Common.{drop, map, ◌≡◌}}
use Rattle.std.specs.List.{join_with_byte}

abbrev pub invariant-loop-word : goal.invariant-loop-word
invariant-loop-word g l =
    joined_on 32 l.is_first l.text.items (map (λ w. w.now) (drop l.word-index l.words))
    ≡ join_with_byte 32 (map (λ w. w.now) l.words)
