-- The bytes of texts.
use Rattle.std.specs.Prelude.{ℕ, List, length}
use Rattle.std.specs.Option.{option_map_or}
use Rattle.std.proofs.Common.{Option}

-- those of a text that may be missing
abbrev pub maybe_bytes : Option (List ℕ) → ℕ
maybe_bytes text = option_map_or length text 0
