-- What is left to do of a line: its changes, looked at from the last to the first.
use Rattle.{indexmap.specs.IndexSet.insert_key, irc_support.proofs.TokenTable.Entries}
use Rattle.irc_support.proofs.TokensRead.{is_named, kept_apart, less_apart, other_way, same_name}
use Rattle.irc_support.specs.Edits.{AreApart, edited, is_kept, kept, left_to, token_in, tokens_in}
use Rattle.irc_support.specs.{Edits.with_all, Text.Text, Tokens.{Token, with_token, without}}
use Rattle.irc_support.specs.declared.tokens.Edit.{Edit, TheVariants.{Remove, Set}}
use Rattle.std.proofs.Common.{Bool, List, Option, [], arith, false, filter, fold, length, not, refl}
use Rattle.std.proofs.{Common.{true, ℕ, ◌++◌, ◌∷◌, ◌≡◌}, lemmas.List.Folds.list_any-append}
use Rattle.std.{proofs.lemmas.List.{Sums.fold-append, nil_from_length}, specs.List.list_any}
use Rattle.std.specs.{Prelude.◌&&◌, Str.bytes_eq, declared.vec.Vec.Vec}

-- ---- names that occur once

AreApart-with : (settings : List Token) (token : Token) → AreApart settings →
    AreApart (with_token settings token)
AreApart-with [] token all = (refl, tt)
AreApart-with (t ∷ settings) token all =
    grind (arith, kept_apart t.0 settings, other_way token.0 t.0, AreApart-with settings token)

AreApart-without : (settings : List Token) (name : Text) → AreApart settings →
    AreApart (without settings name)
AreApart-without [] name all = tt
AreApart-without (t ∷ settings) name all =
    grind (arith, less_apart t.0 settings name, AreApart-without settings name)

pub AreApart-fold : {A : Type 0} (edits : List (Edit A)) (settings : List Token) →
    AreApart settings → AreApart (fold edited settings edits)
AreApart-fold [] settings all = all
AreApart-fold (Set name value ∷ edits) settings all =
    AreApart-fold edits _ (AreApart-with settings (token_in (name, value)) all)
AreApart-fold (Remove name ∷ edits) settings all =
    AreApart-fold edits _ (AreApart-without settings name.items all)

-- ---- taking names away

module _ {A : Type 0} where
  abbrev same : Vec ℕ A → Vec ℕ A → Bool
  same a b = bytes_eq a.items b.items

  -- the name that came last is not kept, for other names nothing changes
  kept_more : (names : List (Vec ℕ A)) (name : Vec ℕ A) (m : Text) →
      is_kept (insert_key same names name) m ≡ (not (bytes_eq name.items m) && is_kept names m)
  kept_more names name m =
      grind (arith, list_any-append, same_name name.items m, other_way name.items m)

  kept-others : (names : List (Vec ℕ A)) (name : Vec ℕ A) (settings : List Token) →
      list_any (is_named name.items) settings ≡ false →
      kept (insert_key same names name) settings ≡ kept names settings
  kept-others names name [] apart = refl
  kept-others names name (t ∷ settings) apart =
      grind (arith, kept_more names name t.0, kept-others names name settings)

  -- a name more that goes is a token less
  kept-insert_key : (names : List (Vec ℕ A)) (name : Vec ℕ A) (settings : List Token) →
      AreApart settings →
      kept (insert_key same names name) settings ≡ kept names (without settings name.items)
  kept-insert_key names name [] all = refl
  kept-insert_key names name (t ∷ settings) all =
      let rest = kept-others names name settings in
      grind (arith, kept_more, same_name name.items t.0, rest, kept-insert_key names name settings)

  -- a token that goes later may as well not be set
  kept-set_gone : (names : List (Vec ℕ A)) (settings : List Token) (token : Token) →
      is_kept names token.0 ≡ false → kept names (with_token settings token) ≡ kept names settings
  kept-set_gone names [] token goes = grind arith
  kept-set_gone names (t ∷ settings) token goes =
      grind (arith, same_name token.0 t.0, kept-set_gone names settings token)

  -- one that stays may be set after the names went
  kept-set : (names : List (Vec ℕ A)) (settings : List Token) (token : Token) →
      is_kept names token.0 ≡ true →
      kept names (with_token settings token) ≡ with_token (kept names settings) token
  kept-set names [] token stays = grind arith
  kept-set names (t ∷ settings) token stays =
      grind (arith, same_name token.0 t.0, kept-set names settings token)

  pub kept-none : (names : List (Vec ℕ A)) → length names ≡ 0 → (settings : List Token) →
      kept names settings ≡ settings
  kept-none names empty [] = refl
  kept-none names empty (t ∷ settings) =
      grind (arith, nil_from_length names empty, kept-none names empty settings)

  -- ---- what is left to do

  pub with_all_push : (settings : List Token) (set : Entries A) (e : Vec ℕ A × Option (Vec ℕ A)) →
      with_all settings (set ++ e ∷ []) ≡ with_all (with_token settings (token_in e)) set
  with_all_push settings [] e = refl
  with_all_push settings (first ∷ set) e = rw (with_all_push settings set e)

  pub kept-entries : (names : List (Vec ℕ A)) (entries : Entries A) →
      tokens_in (filter (λ (e : Vec ℕ A × Option (Vec ℕ A)). is_kept names e.0.items) entries)
      ≡ kept names (tokens_in entries)
  kept-entries names [] = refl
  kept-entries names (e ∷ entries) = grind (arith, kept-entries names entries)

  pub record Leaves (edits : List (Edit A)) (names : List (Vec ℕ A)) (set : Entries A)
      (left : List (Edit A)) : Type 0 where
    pub does : (settings : List Token) → AreApart settings →
        fold edited settings edits ≡ left_to names set (fold edited settings left)

  module _ (edits : List (Edit A)) (names : List (Vec ℕ A)) (set : Entries A)
      (was left : List (Edit A)) where
    -- a change is done if what is left to do then is the same
    Leaves-done : (edit : Edit A) (names' : List (Vec ℕ A)) (set' : Entries A) →
        was ≡ left ++ edit ∷ [] → Leaves edits names set was →
        ((settings : List Token) → AreApart settings →
        left_to names set (edited settings edit) ≡ left_to names' set' settings) →
        Leaves edits names' set' left
    Leaves-done edit names' set' is so same = record {
      does = λ settings all.
          rw (so.does settings all, is, fold-append edited settings left (edit ∷ []))
          (same (fold edited settings left) (AreApart-fold left settings all));
    }

    pub Leaves-remove : (name : Vec ℕ A) → was ≡ left ++ Remove name ∷ [] →
        Leaves edits names set was → Leaves edits (insert_key same names name) set left
    Leaves-remove name is so =
        Leaves-done _ _ set is so (λ settings apart. rw (kept-insert_key names name settings apart))

    pub Leaves-set : (name : Vec ℕ A) (value : Option (Vec ℕ A)) →
        was ≡ left ++ Set name value ∷ [] → is_kept names name.items ≡ true →
        Leaves edits names set was → Leaves edits names (set ++ (name, value) ∷ []) left
    Leaves-set name value is stays so =
        Leaves-done _ names _ is so (λ settings apart.
        rw (kept-set names settings (token_in (name, value)) stays, with_all_push))

    pub Leaves-gone : (name : Vec ℕ A) (value : Option (Vec ℕ A)) →
        was ≡ left ++ Set name value ∷ [] → is_kept names name.items ≡ false →
        Leaves edits names set was → Leaves edits names set left
    Leaves-gone name value is goes so =
        Leaves-done _ names set is so (λ settings apart.
        rw (kept-set_gone names settings (token_in (name, value)) goes))

    pub Leaves-nothing : was ≡ left ++ [] → length left ≡ 0 → Leaves edits names set was →
        (settings : List Token) → AreApart settings →
        fold edited settings edits ≡ left_to names set settings
    Leaves-nothing is none so settings all =
        rw (so.does settings all, is, nil_from_length left none)

  pub Leaves-all : (edits : List (Edit A)) → Leaves edits [] [] edits
  Leaves-all edits = record { does = λ settings all. rw (kept-none [] refl) }
