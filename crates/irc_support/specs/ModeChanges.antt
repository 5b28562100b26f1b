-- Mode changes: the letters of MODE (RFC 2812, section 3.2.3) and of RPL_CHANNELMODEIS, 324
-- (section 5.1), with their signs and parameters.
use Rattle.std.specs.Prelude.{ℕ, Bool, true, false, ◌==◌, if◌then◌else◌, List, [], ◌∷◌, drop}
use Rattle.std.specs.Prelude.{slice_get, Option, None}
use Rattle.irc_support.specs.Text.{Text}
use Rattle.irc_support.specs.Tokens.{Token}
use Rattle.irc_support.specs.ChanModes.{kind_of, takes_parameter}

-- a letter set or unset, and the parameter that it took
pub record ChangeParts : Type 0 where
  pub plus : Bool
  pub letter : ℕ
  pub param : Option Text

-- the letters of a mode text, each with its sign: what the last `+` or `-` before it says, else
-- this
abbrev pub signed : Bool → Text → List (Bool × ℕ)
signed plus [] = []
signed plus (b ∷ text) =
    if b == 43 then signed true text else
    if b == 45 then signed false text else
    (plus, b) ∷ signed plus text

-- the letters with their parameters: each that takes one takes the next, if there is one
abbrev pub with_params : List Token → List (Bool × ℕ) → List Text → List ChangeParts
with_params settings [] params = []
with_params settings (s ∷ letters) params =
    if takes_parameter (kind_of settings s.1) s.0
    then record { plus = s.0; letter = s.1; param = slice_get params 0 }
    ∷ with_params settings letters (drop 1 params)
    else record { plus = s.0; letter = s.1; param = None } ∷ with_params settings letters params

-- The changes of a mode text and its parameters; a sign is plus until the text says otherwise. A
-- letter that finds no parameter left is kept without one: what that means is decided by whoever
-- reads the change.
unfoldable pub changes : List Token → List Text → List ChangeParts
changes settings [] = []
changes settings (text ∷ params) = with_params settings (signed true text) params
