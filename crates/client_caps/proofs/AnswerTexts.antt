-- What an answer holds can be in a line.
use Rattle.client_caps.proofs.{ImageMade.IsFromLines, ImageWritten.nick_written}
use Rattle.client_caps.proofs.{PartsWritten.{param_clean, same_words, split_written}, Words.IfSome}
use Rattle.client_caps.proofs.Words.{List, None, Option, Parts, Some, Text, View, [], arith, codes}
use Rattle.client_caps.proofs.Words.{is_clean, is_nameable, is_writable, option_map, refl}
use Rattle.client_caps.proofs.Words.{slice_get, take, true, unwrap_or, view_sound, ℕ, ◌∷◌, ◌≡◌}
use Rattle.{irc_line.specs.Writing.is_word, std.proofs.Common.Bor}

-- a parameter that there is
pub param_is_clean : (line : Parts) (i : ℕ) (p : Text) → is_writable line ≡ true
    → slice_get line.params i ≡ Some p → is_clean p ≡ true
param_is_clean line i p h is = grind (arith, is, param_clean line.params i (split_written line h).2)

-- a parameter, or nothing if there is none
pub param_or_nothing : (line : Parts) (i : ℕ) → is_writable line ≡ true
    → is_clean (unwrap_or (slice_get line.params i) []) ≡ true
param_or_nothing line i h = grind (arith, param_clean line.params i (split_written line h).2)

pub lent : (o : Option (Bor Text)) (none : Bor Text) → none.now ≡ []
    → (unwrap_or o none).now ≡ unwrap_or (option_map (λ (b : Bor Text). b.now) o) []
lent o none is = grind arith

-- what a request asks, or nothing
pub ruleset asked_steps = (lent, param_or_nothing)

-- what a client is called
pub name_can_stand : (nick : Option (Bor Text)) (star : Bor Text) → star.now ≡ codes "*"
    → IfSome nick (λ n. is_nameable n.now ≡ true)
    → (is_word (unwrap_or nick star).now ≡ true) × (is_clean (unwrap_or nick star).now ≡ true)
name_can_stand None star is h = rw is (refl, refl)
name_can_stand (Some nick) star is h = let w = nick_written nick.now h in (w.1, w.2)

-- the first of some parameters
pub first_taken : (params : List Text) (p : Text) → Some p ≡ slice_get params 0
    → take 1 params ≡ p ∷ []
first_taken params p is = grind arith

pub none_taken : (params : List Text) → None ≡ slice_get params 0 → take 1 params ≡ []
none_taken params is = grind arith

-- our own nick, as a view lends it: what `answer` asks of a nick
pub own_nameable : (v : View) → IsFromLines v → (own : Option (Bor Text))
    → option_map (λ (n : Bor Text). n.now) own ≡ v.own → IfSome own (λ n. is_nameable n.now ≡ true)
own_nameable v from None is = tt
own_nameable v from (Some nick) is = grind (arith, is, from.2, (view_sound from.0).own nick.now)

-- the parameters of a line that an answer repeats
pub ruleset param_steps = (first_taken, none_taken, param_is_clean, same_words)
