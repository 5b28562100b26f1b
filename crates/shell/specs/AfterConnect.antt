-- What a connection sends by itself after its registration. Times are milliseconds.
use Rattle.std.specs.Prelude.{◌≡◌, ◌⊎◌, ◌-◌, ◌<◌, ◌≤◌, ℕ, Bool, true, false, ◌||◌, codes}
use Rattle.std.specs.Prelude.{None, Some}
use Rattle.irc_line.specs.Line.{Parts, has_command}
use Rattle.shell.specs.declared.after_connect.AfterConnect.{AfterConnect}
use Rattle.shell.specs.declared.after_connect.Due.{Due}
use Rattle.shell.specs.declared.after_connect.Due.TheVariants as due

-- a line ends the greeting: 376 RPL_ENDOFMOTD, 422 ERR_NOMOTD (RFC 2812, section 5)
abbrev pub ends_greeting : Parts → Bool
ends_greeting line = has_command line (codes "376") || has_command line (codes "422")

-- no line was sent, the greeting has not ended, and the welcome came less than 10 s ago
pub record Waits (a : AfterConnect) (now : ℕ) : Type 0 where
  pub lines : a.sent < a.lines
  pub none_sent : a.sent ≡ 0
  pub not_greeted : a.is_greeted ≡ false
  pub early : now - a.welcome < 10000

-- the next line may be sent, except for the pace: the greeting has ended or 10 s went by, if it is the
-- first
pub record IsTurn (a : AfterConnect) (now : ℕ) : Type 0 where
  pub lines : a.sent < a.lines
  pub greeted : a.sent ≡ 0 → a.is_greeted ≡ false → 10000 ≤ now - a.welcome

-- the pace lets it in only later
pub record IsHeldBack (a : AfterConnect) (now left : ℕ) : Type 0 where
  pub turn : IsTurn a now
  pub at : ℕ
  pub let_in : a.let_in ≡ Some at
  pub later : now < at
  pub left_is : left ≡ at - now

-- all lines were sent, the last less than its time ago
pub record Rests (a : AfterConnect) (now : ℕ) : Type 0 where
  pub all_sent : a.lines ≤ a.sent
  pub early : now - a.last < a.join_after

-- What is due at a time. The lines come in their order, the first of them once the greeting has
-- ended or 10 s after the welcome, and each when the pace lets it in; the channels are joined only
-- after the last of them, and once.
abbrev pub IsNext : AfterConnect → ℕ → Due → Type 0
IsNext a now due.Nothing = a.is_over ≡ true
IsNext a now (due.After left) =
    (a.is_over ≡ false) × ((Waits a now × (left ≡ 10000 - (now - a.welcome)))
    ⊎ (IsHeldBack a now left ⊎ (Rests a now × (left ≡ a.join_after - (now - a.last)))))
IsNext a now (due.Ask place) =
    (a.is_over ≡ false) × (place ≡ a.sent) × IsTurn a now × (a.let_in ≡ None)
IsNext a now (due.Line place) =
    (a.is_over ≡ false) × (place ≡ a.sent) × IsTurn a now
    × ((at : ℕ) × (a.let_in ≡ Some at) × (at ≤ now))
IsNext a now due.Joins =
    (a.is_over ≡ false) × (a.lines ≤ a.sent) × (a.join_after ≤ now - a.last)
