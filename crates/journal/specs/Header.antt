-- What a file begins with.
use Rattle.std.specs.Prelude.{◌≡◌, ◌<◌, ◌^◌, ◌++◌, ℕ, Bool, true, false, List, [], ◌∷◌, codes}
use Rattle.std.specs.Prelude.{length, nat_eq, take}
use Rattle.std.specs.List.{starts_with}
use Rattle.frames.specs.Frames.{frame}
use Rattle.journal.specs.Records.{RecordParts, journal_of}

-- The text of the first frame, which is the format's name and version: `bnc 1`, CR, LF; in a file
-- that may have messages with rings `bnc 1.1`, which a program that knows none refuses.
unfoldable pub header_for : Bool → List ℕ
header_for false = codes "bnc 1" ++ 13 ∷ 10 ∷ []
header_for true = codes "bnc 1.1" ++ 13 ∷ 10 ∷ []

-- the bytes of a file, which may have messages with rings or not: the header, and the batches that
-- are written after it
abbrev pub file_of : Bool → List (List RecordParts) → List ℕ
file_of rings batches = frame (header_for rings) ++ journal_of batches

-- the bytes are a part of the frame of a header, or none
pub record IsPart (bytes : List ℕ) : Type 0 where
  pub rings : Bool
  pub size : ℕ
  pub short : size < length (frame (header_for rings))
  pub are : bytes ≡ take size (frame (header_for rings))

-- the bytes are not those of such a file, wherever it was cut
abbrev pub IsForeign : List ℕ → Type 0
IsForeign bytes =
    (rings : Bool) (more : List ℕ) (n : ℕ)
    → bytes ≡ take n (frame (header_for rings) ++ more) → ⊥

-- the first frame has the format's name, and another version
pub record IsOfAnotherVersion (bytes : List ℕ) : Type 0 where
  pub text : List ℕ
  pub more : List ℕ
  pub are : bytes ≡ frame text ++ more
  pub fits : length text < 2 ^ 32
  pub named : starts_with nat_eq text (codes "bnc ") ≡ true
  pub other : (rings : Bool) → text ≡ header_for rings → ⊥
