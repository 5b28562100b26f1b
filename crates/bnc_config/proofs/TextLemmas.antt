-- What texts are.
use Rattle.bnc_config.specs.Text.{bars_word, is_word}
use Rattle.irc_names.specs.Nick.{begins_nick, is_nameable, is_outside_nick}
use Rattle.std.proofs.Common.{List, [], arith, false, not, refl, true, ℕ, ◌==◌, ◌∷◌, ◌≡◌}
use Rattle.std.proofs.lemmas.Bool.{Decides.nat_tests, and_parts, not-true}
use Rattle.std.specs.List.{list_any}

none_barred : (bytes : List ℕ) → list_any is_outside_nick bytes ≡ false
    → list_any bars_word bytes ≡ false
none_barred [] h = refl
none_barred (b ∷ bs) h = grind (arith, nat_tests, none_barred bs)

no_colon : (b : ℕ) → begins_nick b ≡ true → not (b == 58) ≡ true
no_colon b h = grind (arith, nat_tests)

-- a nick is a word
pub nameable_is_word : (text : List ℕ) → is_nameable text ≡ true → is_word text ≡ true
nameable_is_word [] h = h
nameable_is_word (b ∷ bs) h =
    let p = and_parts (begins_nick b) _ h in
    rw (no_colon b p.0, none_barred (b ∷ bs) (not-true _ p.1))
