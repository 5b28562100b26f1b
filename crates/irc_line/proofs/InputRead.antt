-- An input that is read piece by piece, on the way and at its end.
use Rattle.irc_line.specs.declared.input.InputEnd.TheVariants as cause
use Rattle.irc_line.proofs.{Pieces.{fed_all-start, lines_all-start}, PiecesTaken.long_more}
use Rattle.irc_line.specs.{Input.{EndsBy, IsTaken, WasRead, WasReadAnew}, Line.Parts, Lines.Pending}
use Rattle.irc_line.specs.Lines.{fed, fed_all, is_too_long, lines_all, lines_of, start}
use Rattle.{irc_line.specs.declared.input.InputEnd.InputEnd, std.proofs.Common.{List, Option, Some}}
use Rattle.std.proofs.Common.{[], append-nil, append_assoc, arith, false, refl, ℕ, ◌++◌, ◌∙◌, ◌∷◌}
use Rattle.std.proofs.{Common.◌≡◌, KnownBytes.Consumes-trans, lemmas.List.Folds.concat-append}
use Rattle.std.specs.{Io.KnownBytes.Consumes, List.concat}

-- these pieces were read, and their lines taken
pub record IsReadSoFar (goes_on : List Parts → Type 0) (old now : Pending)
    (began left : Option (List ℕ)) : Type 0 where
  pub pieces : List (List ℕ)
  pub read : Consumes began left (concat pieces)
  pub held : now ≡ fed_all old pieces
  pub short : old ≡ start → is_too_long (concat pieces) ≡ false
  pub taken : goes_on (lines_all old pieces)

concat_more : (pieces : List (List ℕ)) (piece : List ℕ)
    → concat (pieces ++ piece ∷ []) ≡ concat pieces ++ piece
concat_more pieces piece = grind (arith, concat-append, append-nil)

fed_all_more : (s : Pending) (pieces : List (List ℕ)) (piece : List ℕ)
    → fed_all s (pieces ++ piece ∷ []) ≡ fed (fed_all s pieces) piece
fed_all_more s [] piece = refl
fed_all_more s (p ∷ ps) piece = fed_all_more (fed s p) ps piece

lines_all_more : (s : Pending) (pieces : List (List ℕ)) (piece : List ℕ)
    → lines_all s (pieces ++ piece ∷ [])
    ≡ lines_all s pieces ++ lines_of ((fed_all s pieces).rest ++ piece)
lines_all_more s [] piece = append-nil _
lines_all_more s (p ∷ ps) piece =
    rw (lines_all_more (fed s p) ps piece, append_assoc (lines_of (s.rest ++ p)))

-- one piece more, which what takes the lines takes too
pub more_read : {P P' : List Parts → Type 0} {old s t : Pending} {u v w : Option (List ℕ)}
    (piece : List ℕ) (r : IsReadSoFar P old s u v) → Consumes v w piece → t ≡ fed s piece
    → is_too_long (s.rest ++ piece) ≡ false
    → P' (lines_all old r.pieces ++ lines_of (s.rest ++ piece)) → IsReadSoFar P' old t u w
more_read {P} {P'} {old} {s} {t} {u} {v} {w} piece r read fed_is short taken = record {
  pieces = r.pieces ++ piece ∷ [];
  read = rw (concat_more r.pieces piece) (Consumes-trans u v w _ piece r.read read);
  held = rw (fed_all_more old r.pieces piece, ← r.held) fed_is;
  short = λ first.
      let at : s ≡ fed start (concat r.pieces) = r.held ∙ rw first (fed_all-start r.pieces) in
      rw (concat_more r.pieces piece, long_more s (concat r.pieces) piece at (r.short first)) short;
  taken = rw (lines_all_more old r.pieces piece, ← r.held) taken;
}

-- the last piece
pub last_read : {A : Type 0} {P P' : List Parts → Type 0} {Q : List Parts → A → Type 0}
    {old s t : Pending} {u v w : Option (List ℕ)} (piece : List ℕ) (end : InputEnd A)
    (r : IsReadSoFar P old s u v) → Consumes v w piece
    → IsTaken P' Q (lines_all old r.pieces) s piece t (Some end) → WasRead P' Q old t u w end
last_read {Q = Q} piece (cause.Answered answer) r read h =
    let all = more_read {P' = λ lines. Q lines answer} piece r read h.0 h.1 h.2 in record {
      pieces = all.pieces;
      held = all.held;
      short = all.short;
      why = (all.read, all.taken);
    }
last_read {u = u} {v = v} {w = w} piece cause.TooLong r read h = record {
  pieces = r.pieces;
  held = h.0 ∙ r.held;
  short = r.short;
  why = rw h.0 (piece, Consumes-trans u v w (concat r.pieces) piece r.read read, h.1, h.2);
}
last_read {u = u} {v = v} {w = w} piece cause.OutOfMemory r read h = record {
  pieces = r.pieces;
  held = h.0 ∙ r.held;
  short = r.short;
  why = rw h.0 (piece, Consumes-trans u v w (concat r.pieces) piece r.read read, h.1, h.2);
}
last_read piece end r read h = absurd h

-- the piece that was refused comes after all bytes, of which the splitter holds the rest
ends_anew : {A : Type 0} (goes_on : Type 0) (answers : A → Type 0) (u w : Option (List ℕ))
    (bytes : List ℕ) (t : Pending) (end : InputEnd A) → t ≡ fed start bytes
    → is_too_long bytes ≡ false → EndsBy goes_on answers u w bytes t.rest end
    → EndsBy goes_on answers u w bytes bytes end
ends_anew goes_on answers u w bytes t cause.TooLong held short h =
    (h.0, h.1, rw (long_more t bytes h.0 held short) h.2, h.3)
ends_anew goes_on answers u w bytes t cause.OutOfMemory held short h =
    (h.0, h.1, rw (long_more t bytes h.0 held short) h.2, h.3)
ends_anew goes_on answers u w bytes t end held short h = h

-- from the start of an input the lines are those of all bytes
pub read_anew : {A : Type 0} {P : List Parts → Type 0} {Q : List Parts → A → Type 0}
    {old t : Pending} {u w : Option (List ℕ)} {end : InputEnd A} → old ≡ start
    → WasRead P Q old t u w end → WasReadAnew P Q u w end t
read_anew {A} {P} {Q} {old} {t} {u} {w} {end} first r =
    let bytes = concat r.pieces in
    let held : t ≡ fed start bytes = r.held ∙ rw first (fed_all-start r.pieces) in
    let lines : lines_all old r.pieces ≡ lines_of bytes = rw first (lines_all-start r.pieces) in
    record {
      bytes = bytes;
      held = held;
      short = r.short first;
      why = ends_anew _ _ u w bytes t end held (r.short first) (rw lines at r.why);
    }
