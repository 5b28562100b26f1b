-- A beginning of what is to be sent.
use Rattle.{bnc_config.specs.Settings.NetworkSettings, irc_line.proofs.LinesTaken.parted}
use Rattle.irc_line.{proofs.{Pieces.lines-append, Sent.bytes_more}, specs.Line.Parts}
use Rattle.{irc_line.specs.{Lines.{lines_of, rest_of}, Writing.bytes_of}, std.proofs.Common.◌++◌}
use Rattle.std.proofs.Common.{◌+◌, ◌-◌, ◌<◌, ◌∷◌, ◌≡◌, ◌≤◌, List, Option, [], append-nil}
use Rattle.std.proofs.Common.{append_assoc, arith, drop, get_or, length, length-drop, refl, sym}
use Rattle.std.proofs.{Common.{take, take-add, take-append-drop, ℕ}, KnownBytes.Appends-kept}
use Rattle.std.proofs.{KnownBytes.{Appends-nil, Appends-trans}, lemmas.List.take_rest}
use Rattle.{std.specs.Io.KnownBytes.{Appends, Keeps}, upstream.proofs.SentLemmas.sent_bytes}
use Rattle.upstream.specs.Handshake.{Begins, IsCauseOf, IsSendCause, all_sent, lines_in, sent_for}
use Rattle.upstream.specs.Registration.{answer_to, first_lines}
use Rattle.upstream.specs.declared.handshake.DialFault.{DialFault, TheVariants.{Memory, Write}}

-- nothing is a beginning of anything
pub begins_none : (u : Option (List ℕ)) (a : List ℕ) → Begins u u a
begins_none u a = ([], a, Appends-nil u, refl)

-- so is all of it
pub begins_all : (u v : Option (List ℕ)) (a : List ℕ) → Appends u v a → Begins u v a
begins_all u v a x = (a, [], x, sym (append-nil a))

-- a beginning of what comes after that which was sent
begins_more : (u v w : Option (List ℕ)) (a b : List ℕ) → Appends u v a → Begins v w b
    → Begins u w (a ++ b)
begins_more u v w a b x y = (a ++ y.0, y.1, Appends-trans u v w a y.0 x y.2, rw (y.3, append_assoc))

-- a beginning of the front is one of all
begins_longer : (u v : Option (List ℕ)) (a b : List ℕ) → Begins u v a → Begins u v (a ++ b)
begins_longer u v a b x = (x.0, x.1 ++ b, x.2, rw (x.3, append_assoc))

-- a flush keeps it
pub begins_kept : (u v w : Option (List ℕ)) (a : List ℕ) → Begins u v a → Keeps v w → Begins u w a
begins_kept u v w a x y = (x.0, x.1, Appends-kept u v w x.0 x.2 y, x.3)

-- where the lines go on, after those that were answered
pub begun_in : (network : NetworkSettings) (before done rest lines : List Parts)
    (u v w : Option (List ℕ)) → lines ≡ done ++ rest
    → Appends u v (bytes_of (sent_for network before done))
    → Begins v w (bytes_of (sent_for network (before ++ done) rest))
    → Begins u w (bytes_of (sent_for network before lines))
begun_in network before done rest lines u v w is first next =
    rw (sent_bytes network before done rest lines is) (begins_more u v w _ _ first next)

-- of the line at a place, after those that were answered
pub begun_line : (network : NetworkSettings) (before lines : List Parts) (i : ℕ) (line : Parts)
    (u v w : Option (List ℕ)) → i < length lines → line ≡ get_or lines i line
    → Appends u v (bytes_of (sent_for network before (take i lines)))
    → Begins v w (bytes_of (lines_in (answer_to network (before ++ take i lines) line)))
    → Begins u w (bytes_of (sent_for network before lines))
begun_line network before lines i line u v w within is first next =
    begun_in network before (take i lines) (line ∷ drop (i + 1) lines) lines u v w
    (parted lines i line within is) first
    (rw (bytes_more (lines_in (answer_to network (before ++ take i lines) line)))
    (begins_longer v w _ _ next))

-- a piece more gives lines more
pub piece_more : (a b : List ℕ) → (more : List Parts) × (lines_of (a ++ b) ≡ lines_of a ++ more)
piece_more a b = (lines_of (rest_of a ++ b), lines-append a b)

-- what all of a registration's lines begin with
pub begun_all : (network : NetworkSettings) (lines : List Parts) (u v w : Option (List ℕ))
    → Appends u v (bytes_of (first_lines network))
    → Begins v w (bytes_of (sent_for network [] lines))
    → Begins u w (bytes_of (all_sent network lines))
begun_all network lines u v w first next =
    rw (bytes_more (first_lines network)) (begins_more u v w _ _ first next)

pub begun_first : (network : NetworkSettings) (lines : List Parts) (u v : Option (List ℕ))
    → Begins u v (bytes_of (first_lines network)) → Begins u v (bytes_of (all_sent network lines))
begun_first network lines u v first =
    rw (bytes_more (first_lines network)) (begins_longer u v _ _ first)

-- this many of some bytes were written
pub begun_part : (bytes : List ℕ) (done : ℕ) (u v : Option (List ℕ))
    → Appends u v (take done bytes) → Begins u v bytes
begun_part bytes done u v x =
    (take done bytes, drop done bytes, x, sym (take-append-drop done bytes))

-- one write more of some bytes
pub written_on : (bytes : List ℕ) (done count : ℕ) (u v w : Option (List ℕ)) → done ≤ length bytes
    → Appends u v (take done bytes) → count ≤ length (take (length bytes - done) (drop done bytes))
    → Appends v w (take count (take (length bytes - done) (drop done bytes)))
    → (done + count ≤ length bytes) × Appends u w (take (done + count) bytes)
written_on bytes done count u v w within first fits next =
    let whole = take_rest bytes done in
    let room : count ≤ length bytes - done = rw (whole, length-drop) at fits in (
      omega (arith, within, room),
      rw take-add (Appends-trans u v w _ _ first (rw whole at next)),
    )

-- before anything was read
pub cause_of_none : (network : NetworkSettings) (f : DialFault) → IsSendCause f
    → IsCauseOf network [] f
cause_of_none network Memory h = tt
cause_of_none network Write h = refl
cause_of_none network _ h = absurd h
