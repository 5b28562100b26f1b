-- The bytes of the table's tokens.
use Rattle.indexmap.specs.IndexMap.{insert_entry}
use Rattle.irc_support.proofs.{TokenTable.Entries, TokensRead.same_name}
use Rattle.irc_support.specs.{Edits.{token_in, tokens_in}, Weights.{settings_bytes, token_bytes}}
use Rattle.std.proofs.Common.{Bool, Option, Some, Vec, [], ap, arith, bytes_eq, cond, false}
use Rattle.std.proofs.Common.{length, refl, sum_by, sym, true, ◌∙◌, ℕ, ◌+◌, ◌++◌, ◌∷◌, ◌≡◌}
use Rattle.std.proofs.lemmas.List.{Sums.{sum_by-cons, sum_by_push}, map_push}
use Rattle.std.specs.{Map.lookup, Option.option_map_or}

pub bytes_none : settings_bytes [] ≡ 0
unfolding settings_bytes
bytes_none = refl

module _ {A : Type 0} where
  -- a token more at the end
  pub bytes_push : (entries : Entries A) (e : Vec ℕ A × Option (Vec ℕ A)) →
      settings_bytes (tokens_in (entries ++ e ∷ []))
      ≡ settings_bytes (tokens_in entries) + token_bytes (token_in e)
  unfolding settings_bytes
  bytes_push entries e =
      rw (map_push token_in entries e) (sum_by_push token_bytes (tokens_in entries) (token_in e))

  -- those of the token that had the name
  abbrev pub bytes_before : Vec ℕ A → Option (Option (Vec ℕ A)) → ℕ
  bytes_before name value = option_map_or (λ v. token_bytes (token_in (name, v))) value 0

  -- a name that is set: what it had goes, what it gets comes
  pub bytes_set : (eq : Vec ℕ A → Vec ℕ A → Bool) →
      ((a b : Vec ℕ A) → eq a b ≡ bytes_eq a.items b.items) →
      (entries : Entries A) (name : Vec ℕ A) (value : Option (Vec ℕ A)) →
      settings_bytes (tokens_in (insert_entry eq entries name value))
      + bytes_before name (lookup (eq name) entries)
      ≡ settings_bytes (tokens_in entries) + token_bytes (token_in (name, value))
  unfolding settings_bytes
  bytes_set eq by_bytes [] name value = omega arith
  bytes_set eq by_bytes (e ∷ entries) name value =
      by (bytes_set eq by_bytes entries name value) (eq name e.0) refl
    where
      old : ℕ
      old = sum_by token_bytes (tokens_in entries)

      new : ℕ
      new = sum_by token_bytes (tokens_in (insert_entry eq entries name value))

      by : new + bytes_before name (lookup (eq name) entries)
          ≡ old + token_bytes (token_in (name, value)) → (b : Bool) → eq name e.0 ≡ b →
          sum_by token_bytes (tokens_in
          (cond b ((e.0, value) ∷ entries) (e ∷ insert_entry eq entries name value)))
          + bytes_before name (cond b (Some e.1) (lookup (eq name) entries))
          ≡ sum_by token_bytes (tokens_in (e ∷ entries)) + token_bytes (token_in (name, value))
      by rest true same =
          let named : name.items ≡ e.0.items =
          same_name name.items e.0.items (sym (by_bytes name e.0) ∙ same) in
          let long : length name.items ≡ length e.0.items = ap length named in
          let after = sum_by-cons token_bytes (token_in (e.0, value)) (tokens_in entries) in
          let before = sum_by-cons token_bytes (token_in e) (tokens_in entries) in
          omega (arith, after, before, long)
      by rest false other =
          let after = sum_by-cons token_bytes (token_in e)
          (tokens_in (insert_entry eq entries name value)) in
          let before = sum_by-cons token_bytes (token_in e) (tokens_in entries) in
          omega (arith, after, before, rest)
