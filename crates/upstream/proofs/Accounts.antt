-- Registrations with an account.
use Rattle.sasl.specs.Login as login
use Rattle.upstream.specs.declared.registration.RegisterFault.TheVariants as fault
use Rattle.{bnc_config.specs.Settings.{NetworkSettings, SaslSettings}, irc_line.specs.Line.Parts}
use Rattle.sasl.proofs.Passwords.{answered_alike, failed_alike}
use Rattle.std.proofs.Common.{Bool, List, Option, Some, [], arith, false, refl, true, ℕ}
use Rattle.std.proofs.Common.{◌++◌, ◌∷◌, ◌≡◌}
use Rattle.std.specs.Prelude.{if◌then◌else◌}
use Rattle.upstream.specs.Registration.{answer_of_login, answer_to, fails, fails_behind}
use Rattle.upstream.specs.Registration.{fails_or, fault_of, has_ended, heard}
use Rattle.upstream.specs.Registration.{is_welcome, join_lines, login_or, needs_no_login, reply_to}
use Rattle.upstream.specs.Registration.{sends, welcomes}
use Rattle.upstream.specs.declared.registration.RegisterFault.{RegisterFault}

-- a welcome is the answer only if no login is needed
welcome_needs : (ended w needs : Bool) (joins lines replies : List Parts)
    (f : Option RegisterFault) (a : login.Answer)
    → (if ended then sends [] else if w then if needs then welcomes joins
    else fails fault.SaslFailed else fails_or f (login_or a replies)) ≡ welcomes lines
    → needs ≡ true
welcome_needs ended w needs joins lines replies f a is = grind arith

pub welcome_after_login : (network : NetworkSettings) (account : SaslSettings)
    (before : List Parts) (line : Parts) (lines : List Parts) → network.sasl ≡ Some account
    → answer_to network before line ≡ welcomes lines → login.is_logged_in before ≡ true
welcome_after_login network account before line lines has is =
    let needs = welcome_needs (has_ended network before) (is_welcome (heard network line))
    (needs_no_login network.sasl before) (join_lines network) lines
    (reply_to network before line (heard network line))
    (fault_of network before (heard network line))
    (answer_of_login network.sasl before line) is in
    rw has at needs

-- ---- two passwords of one account

chosen_alike : (b : Bool) (a c : login.Answer) → login.is_failed a ≡ login.is_failed c
    → login.is_failed (if b then login.fails else a) ≡ login.is_failed (if b then login.fails else c)
chosen_alike true a c h = refl
chosen_alike false a c h = h

fails_alike : (user one other : List ℕ) (before lines : List Parts)
    → fails_behind (Some (Some (user, one))) before lines
    ≡ fails_behind (Some (Some (user, other))) before lines
fails_alike user one other before [] = refl
fails_alike user one other before (line ∷ lines) =
    rw (
      chosen_alike _ (login.answer_to (Some (user, one)) before line)
          (login.answer_to (Some (user, other)) before line)
          (failed_alike user one other before line),
      fails_alike user one other (before ++ line ∷ []) lines,
    )

pub answers_alike : (network : NetworkSettings) (user one other : List ℕ) (before : List Parts)
    (line : Parts) → login.is_answered before line ≡ false
    → answer_to (record network { sasl = Some (Some (user, one)) }) before line
    ≡ answer_to (record network { sasl = Some (Some (user, other)) }) before line
answers_alike network user one other before line h =
    rw (fails_alike user one other [] before, answered_alike user one other before line h)
