-- The modes of a channel that are on, by letter.
use Rattle.std.specs.Prelude.{ℕ, T, List, map}
use Rattle.std.specs.Option.{option_map}
use Rattle.std.specs.Ordering.{nat_cmp}
use Rattle.std.specs.FinMap as fin
use Rattle.std.proofs.Common.{Option}
use Rattle.irc_support.specs.Text.{Text}
use Rattle.network_tables.specs.declared.modes.Mode.{Mode}

-- a mode, as its letter and its parameter
abbrev pub mode_of : {A : Type 0} → Mode A → ℕ × Option Text
mode_of mode = (mode.letter, option_map (λ text. text.items) mode.param)

abbrev pub modes_of : {A : Type 0} → List (Mode A) → fin.FinMap nat_cmp (Option Text)
modes_of modes = fin.from_sorted (map mode_of modes)

abbrev pub AreModes : {A : Type 0} → List (Mode A) → Type 0
AreModes modes = T (fin.is_sorted nat_cmp (map mode_of modes))
