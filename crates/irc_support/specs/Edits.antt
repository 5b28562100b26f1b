-- How the tokens lie in the table, and what a prepared change does to them.
use Rattle.std.specs.Prelude.{⊤, ◌≡◌, ℕ, Bool, false, not, List, [], ◌∷◌, map, filter, Option, Some}
use Rattle.std.specs.Prelude.{None, option_map}
use Rattle.std.specs.List.{list_any}
use Rattle.std.specs.Str.{bytes_eq}
use Rattle.std.specs.declared.vec.Vec.{Vec}
use Rattle.irc_support.specs.Text.{Text}
use Rattle.irc_support.specs.Tokens.{Token, without, with_token}
use Rattle.irc_support.specs.declared.tokens.Edit.{Edit}
use Rattle.irc_support.specs.declared.tokens.Edit.TheVariants.{Set, Remove}

-- the token that an entry holds
abbrev pub token_in : {A : Type 0} → Vec ℕ A × Option (Vec ℕ A) → Token
token_in e = (e.0.items, option_map (λ v. v.items) e.1)

abbrev pub tokens_in : {A : Type 0} → List (Vec ℕ A × Option (Vec ℕ A)) → List Token
tokens_in entries = map token_in entries

-- the settings after an edit
abbrev pub edited : {A : Type 0} → List Token → Edit A → List Token
edited settings (Set name value) = with_token settings (name.items, option_map (λ v. v.items) value)
edited settings (Remove name) = without settings name.items

abbrev pub edited_if : {A : Type 0} → List Token → Option (Edit A) → List Token
edited_if settings None = settings
edited_if settings (Some edit) = edited settings edit

-- no two tokens have the same name
abbrev pub AreApart : List Token → Type 0
AreApart [] = ⊤
AreApart (t ∷ settings) =
    (list_any (λ (u : Token). bytes_eq t.0 u.0) settings ≡ false) × AreApart settings

-- whether none of these names is the one of the token
abbrev pub is_kept : {A : Type 0} → List (Vec ℕ A) → Text → Bool
is_kept {A} names name = not (list_any (λ (k : Vec ℕ A). bytes_eq name k.items) names)

-- the settings without the tokens of these names
abbrev pub kept : {A : Type 0} → List (Vec ℕ A) → List Token → List Token
kept {A} names settings = filter (λ (t : Token). is_kept {A = A} names t.0) settings

-- the settings with these tokens; the last in the list is set first
abbrev pub with_all : {A : Type 0} → List Token → List (Vec ℕ A × Option (Vec ℕ A)) → List Token
with_all settings [] = settings
with_all settings (e ∷ earlier) = with_token (with_all settings earlier) (token_in e)

-- what is left to do of a line: first these names go, then these tokens are set
abbrev pub left_to : {A : Type 0} → List (Vec ℕ A) → List (Vec ℕ A × Option (Vec ℕ A)) →
    List Token → List Token
left_to {A} names set settings = with_all {A = A} (kept names settings) set
