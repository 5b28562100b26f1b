-- Marks by which most keys that a table lacks are recognised without a search (our own choice).
use Rattle.std.specs.Prelude.{◌≡◌, ℕ, ◌%◌, Bool, true, List}
use Rattle.std.specs.FinMap as fin
use Rattle.std.proofs.Common.{get_or}
use Rattle.irc_support.specs.Text.{Text}
use Rattle.net_view.specs.Names.{bytes_cmp}
use Rattle.network_tables.specs.Head.{head_of}

-- the place of the mark of a head
abbrev pub mark_of : ℕ → ℕ
mark_of head = head % 1021

-- whether it is up; if there are no marks, each is
abbrev pub is_marked : List Bool → ℕ → Bool
is_marked marks head = get_or marks (mark_of head) true

-- the mark of each key is up
abbrev pub AreMarked : {X : Type 0} → List Bool → fin.FinMap bytes_cmp X → Type 0
AreMarked marks all =
    (key : Text) → fin.contains_key all key ≡ true → is_marked marks (head_of key) ≡ true
