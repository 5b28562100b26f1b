use Rattle.upstream.proofs.sending.request_line.Goals as goal
use Rattle.std.proofs.Common.{Bor, List, [], ap, arith, codes, length, map, ℕ, ◌∙◌, ◌∷◌, ◌≡◌, ◌≤◌}
use Rattle.{std.specs.List.join_by, upstream.proofs.OfferLemmas.{joined_as_lent, joined_is_clean}}
use Rattle.upstream.specs.Registration.{command, request_of}

-- the request of some names
of_some : (names : List (Bor (List ℕ))) (text : List ℕ) → 1 ≤ length names
    → text ≡ join_by (λ n. n) (32 ∷ []) (map (λ (b : Bor (List ℕ)). b.now) names)
    → command (codes "CAP") (codes "REQ" ∷ text ∷ [])
    ≡ request_of (map (λ (b : Bor (List ℕ)). b.now) names)
of_some [] text some is = absurd (omega arith)
of_some (b ∷ bs) text some is = ap (λ t. command (codes "CAP") (codes "REQ" ∷ t ∷ [])) is

pub command-requires : goal.command-requires
command-requires c =
    rw (c.as_bytes.ensures.value, c.as_str.ensures.value, c.in_ok-text-in-len1-up.ensures.ok)
    (rw (joined_as_lent c.args.names.now) (joined_is_clean (map (λ (b : Bor (List ℕ)). b.now) c.args.names.now)
    c.requires))

pub returns-in_ok-text-in-len1-up : goal.returns-in_ok-text-in-len1-up
returns-in_ok-text-in-len1-up c =
    let is = c.as_bytes.ensures.value ∙ c.as_str.ensures.value ∙ c.in_ok-text-in-len1-up.ensures.ok
    ∙ joined_as_lent c.args.names.now in
    rw (← of_some c.args.names.now c.as_bytes.result.now c.in-len1-up.len_at_least is)
    c.command.ensures
