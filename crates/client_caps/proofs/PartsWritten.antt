-- Which tags and parameters can be written.
use Rattle.irc_support.specs.Text as support
use Rattle.std.specs.FinMap as fin
use Rattle.client_caps.proofs.Words
use Words.{◌++◌, ◌∷◌, ◌≡◌, Bool, Caps, IfSome, IsAccount, IsCleanView, IsSound, List, None, Option}
use Words.{Parts, Person, Some, Text, Token, View, [], actor_nick, are_params, arith, codes, cond}
use Words.{false, has_form, is_clean, is_nameable, is_part, is_space, is_writable, join_params}
use Words.{key_by, known_at, list_all, list_any, nat_tests, option_and_then, option_or, refl}
use Words.{slice_get, suc, time_form, time_of, time_tags, true, unwrap_or, zero, ℕ}
use Rattle.irc_line.{proofs.Logic.{and_first, and_second}, specs.Line.is_command}
use Rattle.{irc_line.specs.{Tags.is_tag_byte, Writing.is_word}, std.proofs.lemmas.Bool.eqb-true}
use Rattle.{irc_support.specs.Settings.{is_channel, is_outside_channel}, std.specs.Option.ForSome}
use Rattle.net_view.{proofs.PartsSound.{then_sound, when_sound}, specs.Readers.account_shown}

-- ---- bytes of tags

-- a text for a tag's value
abbrev pub IsTagText : Text → Type 0
IsTagText text = list_all is_tag_byte text ≡ true

pub formed : (form text : Text) → IsTagText form → has_form form text ≡ true → IsTagText text
formed [] [] ok h = refl
formed [] (b ∷ text) ok h = cc
formed (f ∷ form) [] ok h = cc
formed (f ∷ form) (b ∷ text) ok h = grind (arith, nat_tests, eqb-true b f, formed form text)

-- the time of a line has the form of one
abbrev pub HasForm : Text → Type 0
HasForm time = has_form time_form time ≡ true

pub time_has_form : (line : Parts) → IfSome (time_of line) HasForm
time_has_form line = search (then_sound, when_sound)

pub time_fits : (line : Parts) → IfSome (time_of line) IsTagText
time_fits line = grind (arith, time_has_form line, λ (time : Text). formed time_form time refl)

pub text_clean : (text : Text) → IsTagText text
    → (is_clean text ≡ true) × (list_any is_space text ≡ false)
text_clean [] h = (refl, refl)
text_clean (b ∷ text) h = grind (arith, text_clean text)

pub tags_written : (caps : Caps) (moment : Text) (line : Parts) → IsTagText moment
    → is_part (time_tags caps moment line) ≡ true
tags_written caps moment line ok =
    let tag : (t : Text) → IsTagText t → is_part (Some (codes "time=" ++ t)) ≡ true =
    λ t h. grind (arith, nat_tests, text_clean t h) in
    grind (arith, tag, time_fits line)

-- ---- parameters

-- the parts of a written line
pub split_written : (line : Parts) → is_writable line ≡ true → (is_part line.source ≡ true)
    × (is_command line.command ≡ true) × (are_params line.params ≡ true)
split_written line h = grind arith

-- a parameter that there is
pub param_clean : (params : List Text) (i : ℕ) → are_params params ≡ true
    → IfSome (slice_get params i) (λ p. is_clean p ≡ true)
param_clean [] i h = tt
param_clean (p ∷ []) zero h = h
param_clean (p ∷ []) (suc i) h = tt
param_clean (p ∷ q ∷ params) zero h = and_second (is_word p) _ (and_first _ _ h)
param_clean (p ∷ q ∷ params) (suc i) h = param_clean (q ∷ params) i (and_second _ _ h)

pub same_words : (text : Text) → support.is_word text ≡ is_word text
unfolding support.is_word
same_words [] = refl
same_words (b ∷ text) = refl

no_space : (text : Text) → list_any is_outside_channel text ≡ false → list_any is_space text ≡ false
no_space [] h = refl
no_space (b ∷ text) h = grind (arith, nat_tests, no_space text)

-- a channel name is a word
pub channel_word : (settings : List Token) (name : Text) → is_channel settings name ≡ true
    → is_word name ≡ true
unfolding is_channel
channel_word settings [] h = cc
channel_word settings (b ∷ name) h = grind (arith, no_space (b ∷ name))

-- an account that is given or known is a clean word
pub account_word : (first known : Option Text) → IfSome first (λ p. is_clean p ≡ true)
    → IfSome known (λ a. (is_word a ≡ true) × (is_clean a ≡ true)) →
    let acc =
    unwrap_or
    (option_or
    (option_and_then (λ text. cond (support.is_word text) (Some text) None) first)
    known) (codes "*") in (is_word acc ≡ true) × (is_clean acc ≡ true)
account_word first known f k =
    grind (arith, λ (text : Text). same_words text, f, k, star) where
      star : (is_word (codes "*") ≡ true) × (is_clean (codes "*") ≡ true)
      star = (refl, refl)

-- an account that is known is one
pub accounts : (v : View) → IsSound v
    → (n : Text) → IfSome (known_at (λ p. p.account) v n) IsAccount
accounts v sound n =
    grind (arith, λ (p : Person) (e : fin.get v.people n ≡ Some p). (sound.people n p e).account)

known_word : (b : Bool) (known : Option Text) → IfSome known IsAccount
    → ForSome known (λ a. is_clean a ≡ true)
    → IfSome (cond b known None) (λ a. (is_word a ≡ true) × (is_clean a ≡ true))
known_word b known account clean = grind (arith, λ (a : Text). same_words a)

pub known_written : (v : View) → IsSound v → IsCleanView v → (nick : Option Text) → IfSome
    (option_and_then (account_shown v) nick) (λ a. (is_word a ≡ true) × (is_clean a ≡ true))
known_written v sound clean None = tt
known_written v sound clean (Some nick) =
    let n = key_by v.settings nick in
    known_word (is_nameable nick) _ (accounts v sound n) (clean.accounts n)

pub join_written : (v : View) (caps : Caps) (line : Parts) (channel : Text) → IsSound v
    → IsCleanView v → are_params line.params ≡ true → slice_get line.params 0 ≡ Some channel
    → is_channel v.settings channel ≡ true → are_params (join_params v caps line channel) ≡ true
join_written v caps line channel sound clean params at is =
    let known = known_written v sound clean (actor_nick line) in
    let clean_at = λ (i : ℕ). param_clean line.params i params in
    let account = account_word (slice_get line.params 1) _ (clean_at 1) known in
    grind (arith, clean_at 0, channel_word v.settings channel is, account)
