-- What a login keeps.
use Rattle.std.specs.Prelude.{ℕ, Bool, Option}
use Rattle.irc_support.specs.Text.{Text}
use Rattle.sessions.specs.declared.negotiation.Negotiation.{Negotiation}

-- whether a nick came, what USER and PASS gave, the state of the negotiation, how many lines came,
-- and whether it has ended
pub record Progress : Type 0 where
  pub has_nick : Bool
  pub user : Option Text
  pub pass : Option Text
  pub negotiation : Negotiation
  pub count : ℕ
  pub is_over : Bool
