-- A reason that repeats.
use Rattle.std.specs.Prelude.{ℕ, List, Option, option_map}
use Rattle.shell.specs.declared.repeats.Repeats.{Repeats}

abbrev pub last_reason : Repeats → Option (List ℕ)
last_reason r = option_map (λ reason. reason.items) r.last

-- how often it came again
abbrev pub repeats : Repeats → ℕ
repeats r = r.count
