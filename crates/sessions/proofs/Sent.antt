-- What a login sends, line by line and piece by piece.
use Rattle.irc_line.{proofs.Sent.bytes_more, specs.{Line.Parts, Lines.is_too_long}}
use Rattle.{irc_line.specs.Writing.bytes_of, sessions.proofs.Ends.ended_step}
use Rattle.sessions.specs.{Answers.{Answer, answer_to, has_ended, is_end}, Logins.IsCauseOf}
use Rattle.sessions.specs.Logins.{IsSendCause, lines_in, sent_for}
use Rattle.sessions.specs.declared.fault.LoginFault.{LoginFault, TheVariants.{OutOfMemory, Write}}
use Rattle.std.proofs.Common.{◌++◌, ◌∷◌, ◌≡◌, List, Option, [], append-nil, append_assoc, false, ℕ}
use Rattle.std.{proofs.KnownBytes.Appends-trans, specs.Io.KnownBytes.Appends}

pub sent_append : (before a b : List Parts)
    → sent_for before (a ++ b) ≡ sent_for before a ++ sent_for (before ++ a) b
sent_append before [] b = rw append-nil
sent_append before (x ∷ xs) b =
    simp (sent_append (before ++ x ∷ []) xs b, append_assoc)

-- ---- one line more

pub sent_more : (before lines : List Parts) (line : Parts) → sent_for before (lines ++ line ∷ [])
    ≡ sent_for before lines ++ lines_in (answer_to (before ++ lines) line)
sent_more before lines line = rw (sent_append before lines (line ∷ []), append-nil)

-- what is sent for an answer that is known
pub sent_by : {given answer : Answer} (u v : Option (List ℕ)) → given ≡ answer
    → Appends u v (bytes_of (lines_in given)) → Appends u v (bytes_of (lines_in answer))
sent_by u v is h = rw is at h

pub sent_step : (before done lines : List Parts) (line : Parts) (u v w : Option (List ℕ))
    → lines ≡ done ++ line ∷ [] → Appends u v (bytes_of (sent_for before done))
    → Appends v w (bytes_of (lines_in (answer_to (before ++ done) line)))
    → Appends u w (bytes_of (sent_for before lines))
sent_step before done lines line u v w is first next =
    rw (is, sent_more before done line)
    (rw (bytes_more (sent_for before done) (lines_in (answer_to (before ++ done) line)))
    (Appends-trans u v w _ _ first next))

pub still_going : (before : List Parts) (line : Parts) → has_ended before ≡ false
    → is_end (answer_to before line) ≡ false → has_ended (before ++ line ∷ []) ≡ false
still_going before line going none = rw (ended_step before line, none, going)

-- ---- piece by piece

pub sent_for_more : (a b lines : List Parts) (u v w : Option (List ℕ)) → lines ≡ a ++ b
    → Appends u v (bytes_of (sent_for [] a)) → Appends v w (bytes_of (sent_for a b))
    → Appends u w (bytes_of (sent_for [] lines))
sent_for_more a b lines u v w is first next =
    rw (is, sent_append [] a b, bytes_more (sent_for [] a) (sent_for a b))
    (Appends-trans u v w _ _ first next)

-- why its lines were not answered
pub lines_cause : (bytes : List ℕ) (f : LoginFault) → is_too_long bytes ≡ false → IsSendCause f
    → IsCauseOf bytes f
lines_cause bytes OutOfMemory short h = tt
lines_cause bytes Write short h = short
lines_cause bytes _ short h = absurd h
