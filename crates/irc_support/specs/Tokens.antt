-- What a network says of itself by RPL_ISUPPORT, 005 (draft-brocklesby-irc-isupport-03, section 2).
-- Settings are the tokens in force, in order.
use Rattle.std.specs.Prelude.{◌-◌, ◌==◌, if◌then◌else◌, List, [], ◌∷◌, length, take, drop, find}
use Rattle.std.specs.Prelude.{fold, Option, unwrap_or, option_map}
use Rattle.std.specs.Str.{bytes_eq}
use Rattle.irc_support.specs.Text.{Text, cut_at}

-- a name and, after `=`, its value; a value can be empty, which is another thing than none
abbrev pub Token : Type 0
Token = Text × Option Text

-- the tokens of a 005 line: the parameters between our nick and the closing text
abbrev pub token_params : List Text → List Text
token_params params = take (length params - 2) (drop 1 params)

-- the token that a parameter spells: it is cut at its first `=`
abbrev pub token_of : Text → Token
token_of param = cut_at 61 param

-- the settings without the token of this name
abbrev pub without : List Token → Text → List Token
without [] name = []
without (t ∷ settings) name = if bytes_eq name t.0 then settings else t ∷ without settings name

-- the settings with this token: a name that is there keeps its place and gets the value, another
-- goes last
abbrev pub with_token : List Token → Token → List Token
with_token [] token = token ∷ []
with_token (t ∷ settings) token =
    if bytes_eq token.0 t.0 then (t.0, token.1) ∷ settings else t ∷ with_token settings token

-- a token without a name says nothing (our own choice)
abbrev pub with_named : List Token → Text → Option Text → List Token
with_named settings [] value = settings
with_named settings (b ∷ name) value = with_token settings (b ∷ name, value)

-- the settings after one parameter: `-NAME` takes the name away, any other is a token
abbrev pub after_param : List Token → Text → List Token
after_param settings [] = settings
after_param settings (b ∷ text) =
    if b == 45 then without settings text else
    with_named settings (token_of (b ∷ text)).0 (token_of (b ∷ text)).1

-- the settings after a 005 line with these parameters
unfoldable pub set_tokens : List Token → List Text → List Token
set_tokens settings params = fold after_param settings (token_params params)

-- The value of the token of this name, if there is one. A token without `=` is read as one with
-- an empty value.
abbrev pub value_of : List Token → Text → Option Text
value_of settings name =
    option_map (λ (t : Token). unwrap_or t.1 []) (find (λ (t : Token). bytes_eq name t.0) settings)
