-- What a registration keeps.
use Rattle.std.specs.Prelude.{ℕ, Bool, List, Option}
use Rattle.irc_line.specs.Line.{Parts}
use Rattle.upstream.specs.declared.account.AccountLogin.{AccountLogin}
use Rattle.upstream.specs.declared.offers.Offered.{Offered}

-- the nick without marks, the lines for the welcome, which capabilities were offered, how often the
-- nick was another's, how many lines came, the login if there is one, whether 437 counts as 433, and
-- whether it has ended
pub record Progress : Type 0 where
  pub nick : List ℕ
  pub joins : List Parts
  pub offered : Offered
  pub tries : ℕ
  pub count : ℕ
  pub login : Option AccountLogin
  pub has_nicks : Bool
  pub is_over : Bool
