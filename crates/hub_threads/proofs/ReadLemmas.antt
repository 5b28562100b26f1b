-- The lines of a network that was read, and the loss after them.
use Rattle.irc_line.specs.declared.input.InputEnd.TheVariants as input
use Rattle.hub_threads.specs.declared.reading.ReadEnd.TheVariants as cause
use Rattle.{hub_ends.specs.Came.{Came, arrivals}, hub_threads.specs.Reads.{IsReadCause, IsReadIn}}
use Rattle.hub_threads.specs.{Reads.{received_at, why_of}, declared.reading.ReadEnd.ReadEnd}
use Rattle.irc_line.specs.{Input.WasRead, Line.Parts, Lines.{Pending, fed_all, lines_all}}
use Rattle.{irc_line.specs.declared.input.InputEnd.InputEnd, net_view.specs.Arrival.Lost}
use Rattle.{net_view.specs.Arrival.Received, std.proofs.Common.{◌++◌, ◌∷◌, ◌≡◌, List, Option, []}}
use Rattle.std.proofs.Common.{append-nil, append_assoc, map, refl, sym, ℕ}
use Rattle.std.proofs.{KnownBytes.Consumes-nil, lemmas.List.map-append}
use Rattle.std.specs.{Io.KnownBytes.Consumes, List.concat, declared.convert.Infallible.Infallible}

arrivals_at : (moment : ℕ) (lines : List Parts)
    → arrivals (received_at moment lines) ≡ map Received lines
arrivals_at moment [] = refl
arrivals_at moment (line ∷ lines) = rw (arrivals_at moment lines)

-- lines that were put at a moment have arrived, after others
pub arrived : (was mid now : List Came) (moment : ℕ) (before lines : List Parts)
    → arrivals mid ≡ arrivals was ++ map Received before → now ≡ mid ++ received_at moment lines
    → arrivals now ≡ arrivals was ++ map Received (before ++ lines)
arrived was mid now moment before lines first next =
    let both = map-append (λ (c : Came). c.0) mid (received_at moment lines) in
    rw (next, both, first, arrivals_at moment lines, map-append Received before lines)
    (append_assoc (arrivals was) (map Received before) (map Received lines))

module _ {old : Pending} {was last : List Came} {u w : Option (List ℕ)} (now : List Came)
    (lost : arrivals last ≡ arrivals now ++ Lost ∷ []) where
  -- the lines of these pieces were put, and then the loss
  read_to : (pieces : List (List ℕ)) (refused : List ℕ) (ended : ReadEnd)
      → Consumes u w (concat pieces ++ refused)
      → arrivals now ≡ arrivals was ++ map Received (lines_all old pieces)
      → IsReadCause (fed_all old pieces) refused w ended → IsReadIn old was last u w ended
  read_to pieces refused ended read put why = record {
    pieces = pieces;
    refused = refused;
    read = read;
    put = rw (lost, put) (append_assoc (arrivals was) _ (Lost ∷ []));
    why = why;
  }

  -- a network was read to its end
  pub read_in : {new : Pending} (end : InputEnd Infallible)
      → WasRead (λ lines. arrivals now ≡ arrivals was ++ map Received lines) (λ lines never. ⊥)
      old new u w end
      → IsReadIn old was last u w (why_of end)
  read_in (input.Answered never) r = absurd r.why.1
  read_in input.EndOfInput r =
      read_to r.pieces [] cause.EndOfInput (rw append-nil r.why.0) r.why.2 (refl, r.why.1)
  read_in (input.ReadFault error) r =
      read_to r.pieces [] cause.ReadFault (rw append-nil r.why.0) r.why.1 refl
  read_in input.ReadsSpent r =
      read_to r.pieces [] cause.TurnsSpent (rw append-nil r.why.0) r.why.1 refl
  read_in input.TooLong r =
      read_to r.pieces r.why.0 cause.TooLong r.why.1 r.why.3 (rw (← r.held) r.why.2)
  read_in input.OutOfMemory r = read_to r.pieces r.why.0 cause.OutOfMemory r.why.1 r.why.3 tt

-- nothing was read
pub not_read : {old : Pending} {was last : List Came} {u : Option (List ℕ)} {ended : ReadEnd}
    → arrivals last ≡ arrivals was ++ Lost ∷ [] → ended ≡ cause.OutOfMemory
    → IsReadIn old was last u u ended
not_read {was = was} {u = u} lost is =
    read_to was lost [] [] _ (Consumes-nil u) (sym (append-nil (arrivals was))) (rw is tt)
