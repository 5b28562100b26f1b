-- The bytes that settings take.
use Rattle.std.specs.Prelude.{ℕ, ◌+◌, List, length}
use Rattle.std.specs.List.{sum_by}
use Rattle.weights.specs.Costs.{setting_cost}
use Rattle.weights.specs.Sums.{maybe_bytes}
use Rattle.irc_support.specs.Tokens.{Token}

-- a token: its texts, and the same number for each
abbrev pub token_bytes : Token → ℕ
token_bytes token = setting_cost + length token.0 + maybe_bytes token.1

unfoldable pub settings_bytes : List Token → ℕ
settings_bytes settings = sum_by token_bytes settings
