-- What the references in an answer show.
use Rattle.std.specs.Prelude.{ℕ, List, Option, option_map}
use Rattle.std.specs.Borrow.{Bor}
use Rattle.irc_support.specs.Tokens.{Token}

-- a token, from references to its name and its value
abbrev pub shown_token : Bor (List ℕ) × Option (Bor (List ℕ)) → Token
shown_token t = (t.0.now, option_map (λ (value : Bor (List ℕ)). value.now) t.1)
