-- Digests whose bytes are all compared.
use Rattle.std.specs.Prelude.{ℕ, List, fold, bit_or, bit_xor}
use Rattle.std.specs.List.{zip}

-- the bits at which some bytes of the one differ from those at their places in the other
abbrev pub difference_of : List ℕ → List ℕ → ℕ
difference_of a b = fold (λ difference pair. bit_or difference (bit_xor pair.0 pair.1)) 0 (zip a b)
