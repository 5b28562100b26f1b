-- Values by key, each in a cell that has a number.
use Rattle.std.specs.Prelude.{◌≡◌, ℕ, ◌≤◌, ◌%◌, ◌^◌, Bool, if◌then◌else◌}
use Rattle.std.specs.List.{filter_map}
use Rattle.std.specs.Option.{option_map, unwrap_or}
use Rattle.std.specs.FinMap as fin
use Rattle.std.proofs.Common.{Option, Some, None}
use Rattle.slab.specs.Slab.{Slab, get, HasRoomFor}
use Rattle.irc_support.specs.Text.{Text}
use Rattle.net_view.specs.Names.{bytes_cmp}
use Rattle.network_tables.specs.Table.{Tabled, map_bytes}
use Rattle.network_tables.specs.declared.numbered.Keyed.{Keyed}

-- the value in a cell
abbrev pub value_at : {X A : Type 0} → Slab (Keyed X A) → ℕ → Option X
value_at cells n = option_map (λ known. known.value) (get cells n)

-- each key of the index with the value in its cell
unfoldable pub joined : {X A : Type 0} → fin.FinMap bytes_cmp ℕ → Slab (Keyed X A) → fin.FinMap
    bytes_cmp X
joined index cells =
    fin.from_sorted (filter_map (λ e. option_map (λ x. (e.0, x)) (value_at cells e.1)) (fin.entries
    index))

-- the index leads to each cell, and to no other
pub record AreTied {X A : Type 0} (index : fin.FinMap bytes_cmp ℕ) (cells : Slab (Keyed X A)) :
    Type 0 where
  pub held : (key : Text) (n : ℕ) → fin.get index key ≡ Some n → option_map (λ known.
      known.key.items) (get cells n) ≡ Some key
  pub known : (n : ℕ) (known : Keyed X A) → get cells n ≡ Some known → fin.get index
      known.key.items ≡ Some n

-- and there is room in both, and this many bytes, modulo 2^64
pub record IsNumbered {X A : Type 0} (weight : X → ℕ) (index : Tabled ℕ) (cells : Slab (Keyed X A))
    (spare bytes : ℕ) : Type 0 where
  pub tied : AreTied index.all cells
  pub index_room : spare ≤ index.spare
  pub cell_room : HasRoomFor cells spare
  pub weighs : bytes ≡ map_bytes weight (joined index.all cells) % 2 ^ 64

-- what a cell holds with another value
abbrev pub with_value_in : {X A : Type 0} → X → Option (Keyed X A) → Option (Keyed X A)
with_value_in {X} {A} value = option_map {T = Keyed X A} (λ known. record known { value = value })

-- the value that it held
abbrev pub value_out : {X A : Type 0} → Option (Keyed X A) → X → X
value_out {X} {A} known value =
    unwrap_or (option_map {T = Keyed X A} (λ known. known.value) known) value

-- what a cell holds, if its key is one of these
abbrev pub seen_in : {X A : Type 0} → (Text → Bool) → Option (Keyed X A) → Option (Keyed X A)
seen_in is_seen None = None
seen_in is_seen (Some known) = if is_seen known.key.items then Some known else None
