-- A login that took the lines of its client, piece by piece and to its end.
use Rattle.irc_line.specs.declared.input.InputEnd.TheVariants as input
use Rattle.irc_line.{proofs.LinesTaken.{behind, place_parts, place_taken}, specs.Input.WasReadAnew}
use Rattle.irc_line.specs.{Line.Parts, Lines.Pending, Writing.bytes_of}
use Rattle.{irc_line.specs.declared.input.InputEnd.InputEnd, sessions.proofs.Sent.lines_cause}
use Rattle.sessions.{proofs.Sent.sent_for_more, specs.{Answers.has_ended, Logins.EndsLogin}}
use Rattle.sessions.specs.Logins.{GoesOn, IsCauseOf, IsEndAt, LogsIn, outcome_of, sent_for}
use Rattle.sessions.specs.{Progress.Progress, Taken.HasTaken, declared.arrival.LastLine.LastLine}
use Rattle.sessions.specs.declared.fault.LoginFault.{LoginFault}
use Rattle.std.proofs.Common.{◌++◌, ◌+◌, ◌∙◌, ◌∷◌, ◌≡◌, Err, List, Ok, Option, Result, [], ap}
use Rattle.std.proofs.Common.{append_assoc, drop, false, refl, sym, take, ℕ}
use Rattle.std.specs.Io.KnownBytes.{Appends, Consumes}

-- lines more were taken and answered
pub goes_on : (u v w : Option (List ℕ)) (old new : Progress) (before lines : List Parts)
    → GoesOn u v old before → HasTaken (before ++ lines) new → has_ended (before ++ lines) ≡ false
    → Appends v w (bytes_of (sent_for before lines)) → GoesOn u w new (before ++ lines)
goes_on u v w old new before lines h taken going next = record {
  taken = taken;
  going = going;
  sent = sent_for_more before lines (before ++ lines) u v w refl h.sent next;
}

-- one of them was the last
pub ends_login : (u v w : Option (List ℕ)) (old : Progress) (before lines : List Parts) (i : ℕ)
    (end : LastLine) → GoesOn u v old before → IsEndAt before lines i end.ending
    → Appends v w (bytes_of (sent_for before (take (i + 1) lines)))
    → end.behind.items ≡ drop (i + 1) lines → EndsLogin u w (before ++ lines) (Ok end)
ends_login u v w old before lines i end h at next rest =
    let done = before ++ take i lines in
    let first = behind before (take i lines) (take (i + 1) lines) at.0
    (place_taken lines i at.0 at.1 at.2) in (
      done,
      at.0,
      ap (λ t. before ++ t) (place_parts lines i at.0 at.2)
          ∙ sym (append_assoc before (take i lines) (at.0 ∷ drop (i + 1) lines))
          ∙ ap (λ t. done ++ at.0 ∷ t) (sym rest),
      at.3,
      sent_for_more before (take (i + 1) lines) (done ++ at.0 ∷ []) u v w (sym first) h.sent next,
    )

-- what is known of its bytes, by what it came to, and what is known at its end besides
abbrev pub Outcome : Type 0 → Option (List ℕ) → Option (List ℕ) → Option (List ℕ)
    → Option (List ℕ) → Pending → Result LastLine LoginFault → Type 0
Outcome N u w was now t (Ok last) = N × LogsIn u w was now last.ending last.behind.items t
Outcome N u w was now t (Err f) = (bytes : List ℕ) × Consumes u w bytes × IsCauseOf bytes f

module _ (M N : Type 0) (u w was now : Option (List ℕ)) (login : Progress) (t : Pending) where
  abbrev WasTaken : InputEnd (Result LastLine LoginFault) → Type 0
  WasTaken end =
      WasReadAnew (λ lines. M × GoesOn was now login lines)
      (λ lines answer. N × EndsLogin was now lines answer) u w end t

  ended : (end : InputEnd (Result LastLine LoginFault)) → WasTaken end
      → Outcome N u w was now t (outcome_of end)
  ended (input.Answered (Ok last)) r =
      let why = r.why.1.1 in (
        r.why.1.0,
        record {
          bytes = r.bytes;
          before = why.0;
          last = why.1;
          read = r.why.0;
          whole = why.2;
          ended = why.3;
          rest = r.held;
          sent = why.4;
        },
      )
  ended (input.Answered (Err f)) r = (r.bytes, r.why.0, lines_cause r.bytes f r.short r.why.1.1)
  ended input.EndOfInput r = (r.bytes, r.why.0, (r.short, r.why.2.1.going))
  ended (input.ReadFault error) r = (r.bytes, r.why.0, (r.short, r.why.1.1.going))
  ended input.ReadsSpent r = (r.bytes, r.why.0, (r.short, r.why.1.1.going))
  ended input.TooLong r = (r.bytes ++ r.why.0, r.why.1, r.why.2)
  ended input.OutOfMemory r = (r.bytes ++ r.why.0, r.why.1, tt)

  -- it was read to its end
  pub came_to : (end : InputEnd (Result LastLine LoginFault)) (o : Result LastLine LoginFault)
      → WasTaken end → outcome_of end ≡ o → Outcome N u w was now t o
  came_to end o r is = rw (← is) (ended end r)
