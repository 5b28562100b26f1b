-- When a client was heard last.
use Rattle.std.specs.Prelude.{ℕ, Bool, Option, None, Some, true, false}

-- what is heard counts from the first PING on
abbrev pub heard_at : Bool → ℕ → Option ℕ → Option ℕ
heard_at true now before = Some now
heard_at false now None = None
heard_at false now (Some before) = Some now
