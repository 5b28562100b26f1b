-- What is sent, and what is read.
use Rattle.{bnc_config.specs.Settings.NetworkSettings, irc_line.proofs.LinesTaken.{behind, parted}}
use Rattle.irc_line.{proofs.{LinesTaken.up_to, Sent.bytes_more}, specs.Line.Parts}
use Rattle.irc_line.specs.{Lines.{is_too_long, lines_of}, Writing.bytes_of}
use Rattle.std.proofs.Common.{◌++◌, ◌+◌, ◌<◌, ◌∙◌, ◌∷◌, ◌≡◌, Bool, List, Option, [], append-nil}
use Rattle.std.proofs.Common.{append_assoc, arith, drop, false, get_or, length, take, ℕ}
use Rattle.std.{proofs.{KnownBytes.Appends-trans, lemmas.Bool.or_from}, specs.Io.KnownBytes.Appends}
use Rattle.{std.specs.Prelude.if◌then◌else◌, upstream.proofs.Ends.ended_step}
use Rattle.upstream.specs.Handshake.{IsCauseOf, IsLinesCause, IsStepCause, all_sent, lines_in}
use Rattle.sasl.specs.Login as login
use Rattle.upstream.specs.declared.registration.RegisterFault.TheVariants as fault
use Rattle.upstream.specs.{Handshake.sent_for, Registration.{answer_to, fails_or, fault_of}}
use Rattle.upstream.specs.Registration.{answer_of_login, fails, login_or, needs_no_login}
use Rattle.upstream.specs.Registration.{first_lines, has_ended, is_end, is_welcome, join_lines}
use Rattle.upstream.specs.{Registration.{heard, reply_to, sends, welcomes}}
use Rattle.upstream.specs.declared.handshake.DialFault.{DialFault, TheVariants.{Memory, Register}}
use Rattle.upstream.specs.declared.handshake.DialFault.TheVariants.{Write}
use Rattle.upstream.specs.declared.registration.RegisterFault.{RegisterFault}

-- lines that are sent for some lines and for more
sent_append : (network : NetworkSettings) (before a b : List Parts)
    → sent_for network before (a ++ b)
    ≡ sent_for network before a ++ sent_for network (before ++ a) b
sent_append network before [] b = rw append-nil
sent_append network before (x ∷ xs) b =
    rw (sent_append network (before ++ x ∷ []) xs b) (simp append_assoc)

-- the same by their bytes
pub sent_bytes : (network : NetworkSettings) (before done rest lines : List Parts) → lines
    ≡ done ++ rest → bytes_of (sent_for network before lines)
    ≡ bytes_of (sent_for network before done) ++ bytes_of (sent_for network (before ++ done) rest)
sent_bytes network before done rest lines is =
    rw (is, sent_append network before done rest) (bytes_more (sent_for network before done) _)

-- a welcome sends JOIN for each channel
welcome_in : (ended w needs : Bool) (joins lines replies : List Parts) (f : Option RegisterFault)
    (a : login.Answer) → welcomes lines
    ≡ (if ended then sends [] else if w then if needs then welcomes joins
    else fails fault.SaslFailed else fails_or f (login_or a replies))
    → (if ended then sends [] else if w then if needs then welcomes joins
    else fails fault.SaslFailed else fails_or f (login_or a replies)) ≡ welcomes joins
welcome_in ended w needs joins lines replies f a is = grind arith

pub welcome_is : (network : NetworkSettings) (before : List Parts) (line : Parts)
    (lines : List Parts) → welcomes lines ≡ answer_to network before line
    → answer_to network before line ≡ welcomes (join_lines network)
welcome_is network before line lines is =
    welcome_in (has_ended network before) (is_welcome (heard network line))
    (needs_no_login network.sasl before) (join_lines network) lines
    (reply_to network before line (heard network line))
    (fault_of network before (heard network line))
    (answer_of_login network.sasl before line) is

-- ---- the line at a place of some lines, after those that were taken

module _ (network : NetworkSettings) (before lines : List Parts) (i : ℕ) (line : Parts)
    (within : i < length lines) (is : line ≡ get_or lines i line) where
  pub one_behind : before ++ take (i + 1) lines ≡ (before ++ take i lines) ++ line ∷ []
  one_behind = behind before (take i lines) _ line (up_to lines i line within is)

  pub sent_step : (u v w : Option (List ℕ))
      → Appends u v (bytes_of (sent_for network before (take i lines)))
      → Appends v w (bytes_of (lines_in (answer_to network (before ++ take i lines) line)))
      → Appends u w (bytes_of (sent_for network before (take (i + 1) lines)))
  sent_step u v w first next =
      let one = up_to lines i line within is in
      rw (sent_bytes network before (take i lines) (line ∷ []) _ one, append-nil)
      (Appends-trans u v w _ _ first next)

  pub still_going : has_ended network (before ++ take i lines) ≡ false
      → is_end (answer_to network (before ++ take i lines) line) ≡ false
      → has_ended network (before ++ take (i + 1) lines) ≡ false
  still_going going none =
      rw one_behind
      (ended_step network (before ++ take i lines) line ∙ or_from _ _ going none)

  -- why the lines could not be answered, from why this one could not
  pub lines_cause : (f : DialFault)
      → IsStepCause (answer_to network (before ++ take i lines) line) f
      → IsLinesCause network before lines f
  lines_cause Memory h = tt
  lines_cause Write h = tt
  lines_cause (Register f) h =
      (take i lines, line, drop (i + 1) lines, parted lines i line within is, h)
  lines_cause _ h = absurd h

-- ---- piece by piece

pub sent_for_more : (network : NetworkSettings) (a b lines : List Parts) (u v w : Option (List ℕ))
    → lines ≡ a ++ b
    → Appends u v (bytes_of (sent_for network [] a)) → Appends v w (bytes_of (sent_for network a b))
    → Appends u w (bytes_of (sent_for network [] lines))
sent_for_more network a b lines u v w is first next =
    rw (sent_bytes network [] a b lines is) (Appends-trans u v w _ _ first next)

-- the first lines, and what is sent for these
pub all_sent_is : (network : NetworkSettings) (lines : List Parts) (u v w : Option (List ℕ))
    → Appends u v (bytes_of (first_lines network))
    → Appends v w (bytes_of (sent_for network [] lines))
    → Appends u w (bytes_of (all_sent network lines))
all_sent_is network lines u v w first next =
    rw (bytes_more (first_lines network)) (Appends-trans u v w _ _ first next)

pub all_lines_cause : (network : NetworkSettings) (bytes : List ℕ) (f : DialFault)
    → is_too_long bytes ≡ false → IsLinesCause network [] (lines_of bytes) f
    → IsCauseOf network bytes f
all_lines_cause network bytes Memory short h = tt
all_lines_cause network bytes Write short h = short
all_lines_cause network bytes (Register f) short h = (short, h)
all_lines_cause network bytes _ short h = absurd h
