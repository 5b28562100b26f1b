-- What is recalled of a journal.
use Rattle.std.specs.Prelude.{◌≡◌, ◌⊎◌, ◌+◌, ◌++◌, ℕ, Bool, false, List, [], ◌∷◌, Option, None, Some}
use Rattle.std.specs.Prelude.{Ok, Err, length}
use Rattle.std.specs.List.{flat_map}
use Rattle.journal.specs.Kept.{KeptParts, after_all, after_batch, kept_parts}
use Rattle.frames.specs.Frames.{Splits, frame}
use Rattle.history.specs.Messages.{AreKeptBefore, Messages}
use Rattle.journal.specs.Header.{IsPart, header_for}
use Rattle.journal.specs.Records.{IsBatch, RecordParts}
use Rattle.journal.specs.declared.damage.Damage.{Damage}
use Rattle.journal.specs.declared.damage.Damage.TheVariants as damage
use Rattle.journal.specs.declared.damage.RedoError.{RedoError}
use Rattle.journal.specs.declared.damage.RedoError.TheVariants as fault
use Rattle.history.specs.declared.ring.CapacityError.{CapacityError}
use Rattle.history.specs.declared.ring.CapacityError.TheVariants as capacity
use Rattle.journal.specs.declared.replaying.RecallError.{RecallError}
use Rattle.journal.specs.declared.replaying.RecallError.TheVariants as error
use Rattle.journal.specs.declared.replaying.Redone.{Redone}
use Rattle.journal.specs.declared.replaying.Redone.TheVariants as redone

-- the payload is a batch, and this is kept after it
abbrev pub Takes : List ℕ → KeptParts → KeptParts → Type 0
Takes payload old new =
    (rs : List RecordParts) × IsBatch payload rs × (after_batch rs old ≡ Ok new)

abbrev pub TakesAll : List (List ℕ) → KeptParts → KeptParts → Type 0
TakesAll [] old new = new ≡ old
TakesAll (p ∷ ps) old new = (mid : KeptParts) × Takes p old mid × TakesAll ps mid new

-- the payload does not count, for this reason: it is no batch, or its records can't be done
abbrev pub Fails : List ℕ → KeptParts → Damage → Type 0
Fails payload old d =
    ((d ≡ damage.NoRecord) × ((rs : List RecordParts) → IsBatch payload rs → ⊥))
    ⊎ ((rs : List RecordParts) × IsBatch payload rs × (after_batch rs old ≡ Err d))

abbrev pub FailsBy : List ℕ → KeptParts → RedoError → Type 0
FailsBy payload old (fault.Damaged d) = Fails payload old d
FailsBy payload old fault.OutOfMemory = Unit {0}

-- of these payloads this many count, and the next one does not, for this reason
pub record StopsAt (payloads : List (List ℕ)) (start : KeptParts) (done : ℕ) (d : Damage) : Type 0
  where
    pub front : List (List ℕ)
    pub next : List ℕ
    pub later : List (List ℕ)
    pub are : payloads ≡ front ++ next ∷ later
    pub count : length front ≡ done
    pub kept : KeptParts
    pub took : TakesAll front start kept
    pub fails : Fails next kept d

-- all count, or the result says up to which
abbrev pub IsRedone : List (List ℕ) → KeptParts → Redone → Type 0
IsRedone payloads start (redone.All k) = TakesAll payloads start (kept_parts k)
IsRedone payloads start (redone.Until done d) = StopsAt payloads start done d

-- there are no more payloads, or the next one does not count
abbrev pub EndsBy : List (List ℕ) → KeptParts → Option Damage → Type 0
EndsBy later kept None = later ≡ []
EndsBy [] kept (Some d) = ⊥
EndsBy (p ∷ ps) kept (Some d) = Fails p kept d

-- What is recalled of payloads: what is kept after those that count. All do, or the next one does
-- not, for a reason.
pub record IsRecalled (payloads : List (List ℕ)) (start : KeptParts) (batches : ℕ)
    (damage : Option Damage) (kept : KeptParts) : Type 0 where
  pub front : List (List ℕ)
  pub later : List (List ℕ)
  pub are : payloads ≡ front ++ later
  pub count : length front ≡ batches
  pub took : TakesAll front start kept
  pub ends : EndsBy later kept damage

-- the same of bytes: of the payloads of their frames; those that count have this many bytes
pub record Recalls (start : KeptParts) (bytes : List ℕ) (batches used : ℕ) (damage : Option Damage)
    (kept : KeptParts) : Type 0 where
  pub payloads : List (List ℕ)
  pub rest : List ℕ
  pub splits : Splits bytes payloads rest
  pub recalled : IsRecalled payloads start batches damage kept
  pub size : used ≡ length (flat_map frame recalled.front)

-- the same of a file, which may have messages with rings or not: of the bytes after its header,
-- which counts too
pub record RecallsBehind (start : KeptParts) (bytes : List ℕ) (rings : Bool) (batches used : ℕ)
    (damage : Option Damage) (kept : KeptParts) : Type 0 where
  pub more : List ℕ
  pub behind : ℕ
  pub are : bytes ≡ frame (header_for rings) ++ more
  pub recalls : Recalls start more batches behind damage kept
  pub size : used ≡ length (frame (header_for rings)) + behind

-- of a part of a header nothing is recalled, and messages with rings can't be appended to it
pub record RecallsNothing (start : KeptParts) (bytes : List ℕ) (rings : Bool) (batches used : ℕ)
    (damage : Option Damage) (kept : KeptParts) : Type 0 where
  pub part : IsPart bytes
  pub no_rings : rings ≡ false
  pub start_kept : kept ≡ start
  pub no_batches : batches ≡ 0
  pub none_used : used ≡ 0
  pub no_damage : damage ≡ None

abbrev pub RecallsFile : KeptParts → List ℕ → Bool → ℕ → ℕ → Option Damage → KeptParts → Type 0
RecallsFile start bytes rings batches used damage kept =
    RecallsBehind start bytes rings batches used damage kept
    ⊎ RecallsNothing start bytes rings batches used damage kept

-- this is kept after a beginning of these batches
pub record IsAfterBeginning (batches : List (List RecordParts)) (start kept : KeptParts) : Type 0
  where
    pub front : List (List RecordParts)
    pub back : List (List RecordParts)
    pub are : batches ≡ front ++ back
    pub after : after_all front start ≡ Ok kept

-- a hub can begin with these messages
abbrev pub CanBegin : Messages → Type 0
CanBegin h = (first : ℕ) × AreKeptBefore first h

-- as which refusal that of a history counts
abbrev pub recall_error_of : CapacityError → RecallError
recall_error_of capacity.BadCapacity = error.BadCapacity
recall_error_of capacity.OutOfMemory = error.OutOfMemory
