-- The text of a moment has the form of a time.
use Rattle.client_caps.proofs.PartsWritten.{IsTagText, formed, time_fits, time_has_form}
use Rattle.client_caps.proofs.Words.{◌++◌, ◌+◌, ◌<◌, ◌∷◌, ◌≡◌, Date, Parts, Some, Text, [], arith}
use Rattle.client_caps.proofs.Words.{codes, has_form, length, nat_tests, refl, time_form, time_of}
use Rattle.client_caps.{proofs.Words.{true, unwrap_or, ℕ}, specs.Moment.{date_of, day_text}}
use Rattle.{client_caps.specs.Moment.{hour_text, last_moment, time_text_of}, std.proofs.Common.◌%◌}
use Rattle.std.{proofs.Common.◌/◌, specs.{Char.is_ascii_digit, Prelude.min}}

digit : (n : ℕ) → is_ascii_digit (48 + n % 10) ≡ true
digit n = let low : n % 10 < 10 = omega arith in grind (arith, nat_tests)

day_formed : (date : Date) (form text : Text) → has_form form text ≡ true
    → has_form (codes "dddd-dd-dd" ++ form) (day_text date ++ text) ≡ true
day_formed date form text h = simp digit h

hour_formed : (ms : ℕ) → has_form (codes "dd:dd:dd.dddZ") (hour_text ms) ≡ true
hour_formed ms = simp digit

pub time_formed : (moment : ℕ) → has_form time_form (time_text_of moment) ≡ true
unfolding time_text_of
time_formed moment =
    let ms = min moment last_moment in
    let now = ms % 86_400_000 in
    day_formed (date_of (ms / 86_400_000)) (codes "Tdd:dd:dd.dddZ") (codes "T" ++ hour_text now)
    (hour_formed now)

-- so it is made of what a tag's value is made of
pub time_tagged : (moment : ℕ) → IsTagText (time_text_of moment)
time_tagged moment = formed time_form (time_text_of moment) refl (time_formed moment)

-- a text of a form is as long as the form
formed_length : (form text : Text) → has_form form text ≡ true → length text ≡ length form
formed_length [] [] h = refl
formed_length [] (b ∷ text) h = cc
formed_length (f ∷ form) [] h = cc
formed_length (f ∷ form) (b ∷ text) h = grind (arith, formed_length form text)

-- the time of a line has 24 bytes
pub time_found : (line : Parts) (time : Text) → time_of line ≡ Some time → length time ≡ 24
time_found line time e = grind (arith, e, time_has_form line, formed_length time_form time)

-- what a line is shown to have come at can be in a tag
pub shown_tagged : (line : Parts) (moment : ℕ)
    → IsTagText (unwrap_or (time_of line) (time_text_of moment))
shown_tagged line moment = grind (arith, time_tagged moment, time_fits line)
