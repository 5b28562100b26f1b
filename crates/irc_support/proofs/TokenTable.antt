-- The table's entries as tokens.
use Rattle.{indexmap.specs.IndexMap.insert_entry, irc_support.specs.{Edits.tokens_in, Text.Text}}
use Rattle.{irc_support.specs.Tokens.{value_of, with_token}, std.proofs.Common.{◌∷◌, ◌≡◌, Bool}}
use Rattle.std.proofs.Common.{List, Option, Vec, [], arith, bytes_eq, option_map, refl, unwrap_or}
use Rattle.std.{proofs.{Common.ℕ, lemmas.Option.slice_get-map}, specs.Map.lookup}

abbrev pub Entries : Type 0 → Type 0
Entries A = List (Vec ℕ A × Option (Vec ℕ A))

-- to insert is to set a token
pub tokens_in_insert_entry : {A : Type 0} (eq : Vec ℕ A → Vec ℕ A → Bool) →
    ((a b : Vec ℕ A) → eq a b ≡ bytes_eq a.items b.items) →
    (entries : Entries A) (name : Vec ℕ A) (value : Option (Vec ℕ A)) →
    tokens_in (insert_entry eq entries name value)
    ≡ with_token (tokens_in entries) (name.items, option_map (λ v. v.items) value)
tokens_in_insert_entry eq by_bytes [] name value = refl
tokens_in_insert_entry eq by_bytes (e ∷ entries) name value =
    grind (arith, by_bytes name e.0, tokens_in_insert_entry eq by_bytes entries name value)

-- what is read of a stored value
abbrev pub read_value : {A : Type 0} → Option (Vec ℕ A) → Text
read_value v = unwrap_or (option_map (λ x. x.items) v) []

-- to look up is to read a token's value
pub lookup-value_of : {A : Type 0} (entries : Entries A) (name : Text) →
    option_map (read_value {A = A}) (lookup (λ (k : Vec ℕ A). bytes_eq name k.items) entries)
    ≡ value_of (tokens_in entries) name
lookup-value_of [] name = refl
lookup-value_of (e ∷ entries) name = grind (arith, lookup-value_of entries name)

-- for an attribute `using`: the token at a place
pub ruleset token_places = (slice_get-map)
