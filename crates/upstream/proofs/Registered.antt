-- A registration that took the lines of its network, piece by piece and to its end.
use Rattle.irc_line.specs.declared.input.InputEnd.TheVariants as input
use Rattle.{bnc_config.specs.Settings.NetworkSettings, irc_line.proofs.LinesTaken.behind}
use Rattle.irc_line.{proofs.LinesTaken.{place_parts, place_taken}, specs.Input.WasReadAnew}
use Rattle.irc_line.specs.{Line.Parts, Lines.{Pending, fed, is_too_long, lines_of, start}}
use Rattle.irc_line.specs.{Writing.bytes_of, declared.input.InputEnd.InputEnd}
use Rattle.std.proofs.Common.{◌++◌, ◌+◌, ◌∙◌, ◌∷◌, ◌≡◌, Err, List, Ok, Option, Result, []}
use Rattle.std.proofs.Common.{append_assoc, drop, false, refl, sym, take, ℕ}
use Rattle.std.{proofs.KnownBytes.Consumes-nil, specs.Io.KnownBytes.{Appends, Consumes}}
use Rattle.upstream.proofs.BegunLemmas.{begins_all, begins_none, begun_in, piece_more}
use Rattle.upstream.proofs.SentLemmas.{all_lines_cause, all_sent_is, sent_for_more}
use Rattle.upstream.specs.Handshake.{Begins, EndsSo, GoesOn, IsCauseOf, IsLinesCause, IsWelcomeAt}
use Rattle.upstream.specs.Handshake.{IsWelcomed, all_sent, outcome_of, sent_for}
use Rattle.upstream.specs.{Progress.Progress, Registration.{first_lines, has_ended}, Taken.HasTaken}
use Rattle.upstream.specs.declared.handshake.DialFault.{DialFault, TheVariants.{Memory, Read}}
use Rattle.upstream.specs.declared.handshake.DialFault.TheVariants.{Register, TooLong, Write}
use Rattle.upstream.specs.declared.handshake.FromWelcome.{FromWelcome}

-- ---- lines more

cause_behind : (network : NetworkSettings) (before lines : List Parts) (f : DialFault)
    → IsLinesCause network before lines f → IsLinesCause network [] (before ++ lines) f
cause_behind network before lines Memory h = tt
cause_behind network before lines Write h = tt
cause_behind network before lines (Register f) h =
    (before ++ h.0, h.1, h.2, rw (append_assoc, ← h.3), h.4)
cause_behind network before lines _ h = absurd h

-- what is said of lines at each network, after others that were taken
abbrev Of : Progress → (NetworkSettings → List Parts → Type 0) → Type 0
Of old P = (network : NetworkSettings) (before : List Parts) → HasTaken network before old
    → has_ended network before ≡ false → P network before

module _ (first : Progress) (u v w : Option (List ℕ)) (old : Progress) (before lines : List Parts)
    (h : GoesOn first u v old before) where
  pub goes_on : (new : Progress)
      → Of old (λ network before. HasTaken network (before ++ lines) new
      × (has_ended network (before ++ lines) ≡ false)
      × Appends v w (bytes_of (sent_for network before lines)))
      → GoesOn first u w new (before ++ lines)
  goes_on new next network taken =
      let so_far = h network taken in
      let known = next network before so_far.taken so_far.going in
      record {
        taken = known.0;
        going = known.1;
        sent = sent_for_more network before lines _ u v w refl so_far.sent known.2;
      }

  -- one of them was the welcome
  pub ends_so : (i : ℕ) (end : FromWelcome) → end.lines.items ≡ drop i lines
      → Of old (λ network before. IsWelcomeAt network before lines i
      × Appends v w (bytes_of (sent_for network before (take (i + 1) lines))))
      → EndsSo first u w (before ++ lines) (Ok end)
  ends_so i end rest next network taken =
      let so_far = h network taken in
      let known = next network before so_far.taken so_far.going in
      let at = known.0 in
      let done = before ++ take i lines in
      let to = behind before (take i lines) _ at.0 (place_taken lines i at.0 at.1 at.2) in
      let is : IsWelcomed network (before ++ lines) done at.0 (drop (i + 1) lines) =
      record { whole = rw (append_assoc, ← place_parts lines i at.0 at.2); answer = at.3 } in
      let sent = sent_for_more network before (take (i + 1) lines) _ u v w (sym to) so_far.sent
      known.1 in
      (done, at.0, drop (i + 1) lines, is, rest ∙ at.2, sent)

  -- one of them could not be answered
  pub fails_so : (f : DialFault) → Of old (λ network before. IsLinesCause network before lines f)
      → Of old (λ network before. Begins v w (bytes_of (sent_for network before lines)))
      → EndsSo first u w (before ++ lines) (Err f)
  fails_so f cause begun network taken =
      let so_far = h network taken in
      let why = cause network before so_far.taken so_far.going in
      let next = begun network before so_far.taken so_far.going in
      let begins = begun_in network [] before lines _ u v w refl so_far.sent next in
      (cause_behind network before lines f why, begins)

-- ---- to the end

-- what is known of the bytes up to the welcome, if these lines are sent for lines
abbrev pub WasWelcomed : (List Parts → List Parts) → NetworkSettings → Option (List ℕ)
    → Option (List ℕ) → Option (List ℕ) → Option (List ℕ) → List Parts → Pending → Type 0
WasWelcomed sent network u w was now lines t =
    (bytes : List ℕ) × (before : List Parts) × (welcome : Parts) × (after : List Parts)
    × Consumes u w bytes × IsWelcomed network (lines_of bytes) before welcome after
    × (lines ≡ welcome ∷ after) × (t ≡ fed start bytes)
    × Appends was now (bytes_of (sent (before ++ welcome ∷ [])))

-- the first lines were sent before
pub all_welcomed : (network : NetworkSettings) (u w opened was now : Option (List ℕ))
    (lines : List Parts) (t : Pending) → Appends opened was (bytes_of (first_lines network))
    → WasWelcomed (sent_for network []) network u w was now lines t
    → WasWelcomed (all_sent network) network u w opened now lines t
all_welcomed network u w opened was now lines t first k =
    let sent = all_sent_is network (k.1 ++ k.2 ∷ []) opened was now first k.8 in
    (k.0, k.1, k.2, k.3, k.4, k.5, k.6, k.7, sent)

-- what is known of the bytes up to a fault
abbrev pub FailsBy : NetworkSettings → Option (List ℕ) → Option (List ℕ) → Option (List ℕ)
    → Option (List ℕ) → DialFault → Type 0
FailsBy network u w was now fault =
    (bytes : List ℕ) × Consumes u w bytes × IsCauseOf network bytes fault
    × Begins was now (bytes_of (sent_for network [] (lines_of bytes)))

-- nothing was read, as there was no memory to read with
pub not_read : (network : NetworkSettings) (u was : Option (List ℕ))
    → FailsBy network u u was was Memory
not_read network u was = ([], Consumes-nil u, tt, begins_none was _)

-- by what the registration came to
abbrev pub Outcome : Option (List ℕ) → Option (List ℕ) → Option (List ℕ) → Option (List ℕ)
    → Pending → Result FromWelcome DialFault → NetworkSettings → Type 0
Outcome u w was now t (Ok last) network =
    WasWelcomed (sent_for network []) network u w was now last.lines.items t
Outcome u w was now t (Err fault) network = FailsBy network u w was now fault

-- of each network at which it began
abbrev Known : Progress → (NetworkSettings → Type 0) → Type 0
Known first P = (network : NetworkSettings) → HasTaken network [] first → P network

module _ (N : Type 0) (u w was now : Option (List ℕ)) (first login : Progress) (t : Pending) where
  at_welcome : (bytes : List ℕ) (end : FromWelcome) → Consumes u w bytes → t ≡ fed start bytes
      → EndsSo first was now (lines_of bytes) (Ok end)
      → Known first (Outcome u w was now t (Ok end))
  at_welcome bytes end read held h network taken =
      let why = h network taken in
      (bytes, why.0, why.1, why.2, read, why.3, why.4, held, why.5)

  at_fault : (bytes : List ℕ) (f : DialFault) → Consumes u w bytes → is_too_long bytes ≡ false
      → EndsSo first was now (lines_of bytes) (Err f) → Known first (Outcome u w was now t (Err f))
  at_fault bytes f read short h network taken =
      let why = h network taken in
      (bytes, read, all_lines_cause network bytes f short why.0, why.1)

  -- the input ended, or could not be read
  at_read : (bytes : List ℕ) → Consumes u w bytes → is_too_long bytes ≡ false
      → GoesOn first was now login (lines_of bytes) → Known first (Outcome u w was now t (Err Read))
  at_read bytes read short h network taken =
      let at = h network taken in
      (bytes, read, (short, at.going), begins_all was now _ at.sent)

  -- after the bytes whose lines were answered comes a piece that was refused
  at_piece : (bytes piece : List ℕ) (f : DialFault) → Consumes u w (bytes ++ piece)
      → ((network : NetworkSettings) → IsCauseOf network (bytes ++ piece) f)
      → GoesOn first was now login (lines_of bytes) → Known first (Outcome u w was now t (Err f))
  at_piece bytes piece f read cause h network taken =
      let more = piece_more bytes piece in
      let all = lines_of (bytes ++ piece) in
      let begun = begun_in network [] (lines_of bytes) more.0 all was now now more.1
      (h network taken).sent (begins_none now _) in
      (bytes ++ piece, read, cause network, begun)

  abbrev WasTaken : InputEnd (Result FromWelcome DialFault) → Type 0
  WasTaken end =
      WasReadAnew (λ lines. N × GoesOn first was now login lines)
      (λ lines answer. N × EndsSo first was now lines answer) u w end t

  ended : (end : InputEnd (Result FromWelcome DialFault)) → WasTaken end
      → N × Known first (Outcome u w was now t (outcome_of end))
  ended (input.Answered (Ok end)) r = (r.why.1.0, at_welcome r.bytes end r.why.0 r.held r.why.1.1)
  ended (input.Answered (Err f)) r = (r.why.1.0, at_fault r.bytes f r.why.0 r.short r.why.1.1)
  ended input.EndOfInput r = (r.why.2.0, at_read r.bytes r.why.0 r.short r.why.2.1)
  ended (input.ReadFault error) r = (r.why.1.0, at_read r.bytes r.why.0 r.short r.why.1.1)
  ended input.ReadsSpent r = (r.why.1.0, at_read r.bytes r.why.0 r.short r.why.1.1)
  ended input.TooLong r =
      (r.why.3.0, at_piece r.bytes r.why.0 TooLong r.why.1 (λ _. r.why.2) r.why.3.1)
  ended input.OutOfMemory r =
      (r.why.3.0, at_piece r.bytes r.why.0 Memory r.why.1 (λ _. tt) r.why.3.1)

  pub came_to : (end : InputEnd (Result FromWelcome DialFault)) (o : Result FromWelcome DialFault)
      → WasTaken end → outcome_of end ≡ o → N × Known first (Outcome u w was now t o)
  came_to end o r is = rw (← is) (ended end r)
