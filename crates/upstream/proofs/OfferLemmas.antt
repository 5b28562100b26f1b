-- Capabilities in lists, and in the lines so far.
use Rattle.{irc_line.specs.{Line.Parts, Writing.is_clean}, std.proofs.Common.{Bool, Bor, List, []}}
use Rattle.std.proofs.Common.{append-nil, arith, codes, false, filter, map, refl, true, ℕ, ◌++◌}
use Rattle.std.proofs.{Common.{◌==◌, ◌||◌, ◌∷◌, ◌≡◌}, Math.Bool.or-false}
use Rattle.std.proofs.lemmas.List.Folds.{flat_map-map, list_all-append, list_any-append}
use Rattle.std.specs.List.{flat_map, join_by, list_all, list_any, slice_split}
use Rattle.sasl.specs.Said.{last_param}
use Rattle.bnc_config.specs.Settings.{SaslSettings}
use Rattle.upstream.specs.Registration.{is_list, is_login_offered, is_offered, is_word_for, named}
use Rattle.upstream.specs.Registration.{offers_login}
use Rattle.upstream.specs.{Registration.{names_of, offered_by, offers, our_caps}, Said.said}
use Rattle.upstream.specs.declared.offers.Offered.{Offered}

-- what one more line offers
offered_more : (name : List ℕ) (before : List Parts) (line : Parts)
    → is_offered (before ++ line ∷ []) name ≡ (is_offered before name || offers name line)
offered_more name before line = rw (list_any-append (offers name) before (line ∷ []), or-false)

-- the same of a login
pub login_offered_more : (account : SaslSettings) (before : List Parts) (line : Parts)
    → is_login_offered account (before ++ line ∷ [])
    ≡ (is_login_offered account before || offers_login account line)
login_offered_more account before line =
    rw (list_any-append (offers_login account) before (line ∷ []), or-false)

-- which are offered after one more line
offered_by_more : (before : List Parts) (line : Parts) (offered : Offered)
    → offered ≡ offered_by before
    → offered_by (before ++ line ∷ []) ≡ record {
      multi_prefix = offered.multi_prefix || offers (codes "multi-prefix") line;
      extended_join = offered.extended_join || offers (codes "extended-join") line;
      account_notify = offered.account_notify || offers (codes "account-notify") line;
      away_notify = offered.away_notify || offers (codes "away-notify") line;
      server_time = offered.server_time || offers (codes "server-time") line;
    }
offered_by_more before line offered at = rw at (simp offered_more)

-- a line that has no list offers nothing
pub offers_nothing : (before : List Parts) (line : Parts) (offered : Offered) → is_list (said line)
    ≡ false → offered ≡ offered_by before → offered ≡ offered_by (before ++ line ∷ [])
offers_nothing before line offered none at =
    rw (offered_by_more before line offered at, none) (simp or-false)

filter_first : (p : List ℕ → Bool) (x : List ℕ) (xs : List (List ℕ))
    → filter p (x ∷ xs) ≡ named (p x) x ++ filter p xs
filter_first p x xs = grind arith

-- the names of those that lines offered are ours that they offered
pub names_are_offered : (lines : List Parts)
    → names_of (offered_by lines) ≡ filter (is_offered lines) our_caps
names_are_offered lines = simp filter_first (simp append-nil)

-- names that are joined by spaces
tail_is_clean : (names : List (List ℕ)) → list_all is_clean names ≡ true
    → is_clean (flat_map (λ y. (32 ∷ []) ++ y) names) ≡ true
tail_is_clean [] h = refl
tail_is_clean (x ∷ xs) h = grind (arith, list_all-append, tail_is_clean xs)

pub joined_is_clean : (names : List (List ℕ)) → list_all is_clean names ≡ true
    → is_clean (join_by (λ n. n) (32 ∷ []) names) ≡ true
joined_is_clean [] h = refl
joined_is_clean (x ∷ xs) h = grind (arith, list_all-append, tail_is_clean xs)

-- the names are joined as they are lent
pub joined_as_lent : (names : List (Bor (List ℕ)))
    → join_by (λ (b : Bor (List ℕ)). b.now) (32 ∷ []) names
    ≡ join_by (λ n. n) (32 ∷ []) (map (λ (b : Bor (List ℕ)). b.now) names)
joined_as_lent [] = refl
joined_as_lent (b ∷ bs) =
    rw (flat_map-map (λ (y : List ℕ). 32 ∷ y) (λ (b : Bor (List ℕ)). b.now) bs)

-- which are offered after one more line that has a list
pub offers_listed : (before : List Parts) (line : Parts) (offered : Offered) (list : List ℕ)
    (a b c d e : Bool)
    → is_list (said line) ≡ true → offered ≡ offered_by before → list ≡ last_param line
    → a ≡ list_any (is_word_for (codes "multi-prefix")) (slice_split (λ x. x == 32) list)
    → b ≡ list_any (is_word_for (codes "extended-join")) (slice_split (λ x. x == 32) list)
    → c ≡ list_any (is_word_for (codes "account-notify")) (slice_split (λ x. x == 32) list)
    → d ≡ list_any (is_word_for (codes "away-notify")) (slice_split (λ x. x == 32) list)
    → e ≡ list_any (is_word_for (codes "server-time")) (slice_split (λ x. x == 32) list)
    → ◌≡◌ {A = Offered} (record {
      multi_prefix = offered.multi_prefix || a;
      extended_join = offered.extended_join || b;
      account_notify = offered.account_notify || c;
      away_notify = offered.away_notify || d;
      server_time = offered.server_time || e;
    }) (offered_by (before ++ line ∷ []))
offers_listed before line offered list a b c d e listed at is p q r s t =
    rw (offered_by_more before line offered at, p, q, r, s, t, is, listed)
