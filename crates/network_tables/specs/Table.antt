-- Entries in the order of their keys.
use Rattle.std.specs.Prelude.{ℕ, T, Bool, List, length, map, sum_by, if◌then◌else◌, ◌≡◌, ◌+◌, ◌%◌, ◌^◌}
use Rattle.std.specs.Coded.{Coded, code_by, coded×, coded_ℕ, coded_list}
use Rattle.std.specs.Option.{unwrap_or}
use Rattle.std.specs.Borrow.{Bor}
use Rattle.block_list.specs.Blocks.{Shelf}
use Rattle.std.specs.FinMap as fin
use Rattle.std.proofs.Common.{refl}
use Rattle.irc_support.specs.Text.{Text}
use Rattle.net_view.specs.Names.{bytes_cmp}
use Rattle.network_tables.specs.Marks.{AreMarked}
use Rattle.network_tables.specs.declared.slot.Slot.{Slot}

-- all entries by their keys, and for how many more there is room
pub record Tabled (X : Type 0) : Type 0 where
  pub all : fin.FinMap bytes_cmp X
  pub spare : ℕ

abbrev pub tabled_code : {X : Type 0} → Coded X → Coded (Tabled X)
tabled_code {X} x =
    code_by (fin.FinMap bytes_cmp X × ℕ) (coded× (fin.code (coded_list coded_ℕ) x) coded_ℕ)
    (λ t. (t.all, t.spare)) (λ p. record { all = p.0; spare = p.1 }) (λ _. refl)

-- an entry, as its key and its value
abbrev pub entry_of : {X A : Type 0} → Slot X A → Text × X
entry_of slot = (slot.entry.value.key.items, slot.entry.value.value)

-- all entries of a list in the order of keys
abbrev pub tabled : {X A : Type 0} → Shelf (Slot X A) → Tabled X
tabled entries = record {
  all = fin.from_sorted (map entry_of entries.items);
  spare = entries.spare;
}

-- those of an entry: of its key, and of its value
abbrev pub entry_bytes : {X : Type 0} → (X → ℕ) → Text × X → ℕ
entry_bytes weight e = length e.0 + weight e.1

-- those of all entries
abbrev pub map_bytes : {X : Type 0} → (X → ℕ) → fin.FinMap bytes_cmp X → ℕ
map_bytes weight m = sum_by (entry_bytes weight) (fin.entries m)

-- each with its mark up, and this many bytes, modulo 2^64
abbrev pub AreNoted : {X : Type 0} → (X → ℕ) → List Bool → ℕ → fin.FinMap bytes_cmp X → Type 0
AreNoted weight marks bytes all = AreMarked marks all × (bytes ≡ map_bytes weight all % 2 ^ 64)

-- and in the order of their keys
abbrev pub IsTabled : {X A : Type 0} → (X → ℕ) → Shelf (Slot X A) → List Bool → ℕ → Type 0
IsTabled weight entries marks bytes =
    T (fin.is_sorted bytes_cmp (map entry_of entries.items))
    × AreNoted weight marks bytes (tabled entries).all

-- a value in the place of another, if there is one
abbrev pub swapped_in : {X : Type 0} → fin.FinMap bytes_cmp X → Text → X → fin.FinMap bytes_cmp X
swapped_in m key value = if fin.contains_key m key then fin.insert m key value else m

-- what it then stands for
abbrev pub swapped_out : {X : Type 0} → fin.FinMap bytes_cmp X → Text → X → X
swapped_out m key value = unwrap_or (fin.get m key) value

-- an entry that is lent
abbrev pub entry_now : {X : Type 0} → Bor Text × Bor X → Text × X
entry_now entry = (entry.0.now, entry.1.now)
