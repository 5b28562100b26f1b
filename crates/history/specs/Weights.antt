-- The bytes of what is kept, by which the budget of a network goes.
use Rattle.std.specs.Prelude.{ℕ, ◌+◌, List, length, sum_by}
use Rattle.std.specs.FinMap as map
use Rattle.weights.specs.Costs.{entry_cost, name_cost}
use Rattle.weights.specs.Sums.{maybe_bytes}
use Rattle.history.specs.Entry.{EntryParts}
use Rattle.history.specs.Marks.{NameMarks}
use Rattle.history.specs.Messages.{Messages}

-- those of a message: of its texts, and of the name of its ring, if that is a person's
abbrev pub entry_bytes : EntryParts → ℕ
entry_bytes e =
    entry_cost + length e.source + length e.command + length e.target + length e.text
    + length e.time + maybe_bytes e.ring

-- those of messages with their numbers
abbrev pub kept_bytes : List (ℕ × EntryParts) → ℕ
kept_bytes kept = sum_by (λ m. entry_bytes m.1) kept

abbrev pub history_bytes : Messages → ℕ
history_bytes h = kept_bytes h.kept

-- those of the names of clients
abbrev pub marks_bytes : NameMarks → ℕ
marks_bytes marks = sum_by (λ m. name_cost + length m.0) (map.entries marks)
