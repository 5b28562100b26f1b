-- What is known of persons, as lines say it.
use Rattle.std.specs.Prelude.{Bool, if◌then◌else◌}
use Rattle.std.proofs.Common.{Option, Some, None}
use Rattle.irc_support.specs.Text.{Text}
use Rattle.net_view.specs.Told.{Told, Joined}
use Rattle.net_view.specs.Facts.{Says, says_account, says_away, says_spelling}
use Rattle.tape_view.specs.declared.facts.Fact.{Fact}
use Rattle.tape_view.specs.declared.facts.Fact.TheVariants.{Nick, Account, Away}

-- what an item says of this fact
abbrev pub says_of : Fact → Says
says_of Nick = says_spelling
says_of Account = says_account
says_of Away = says_away

-- the channel that our own JOIN names
abbrev pub joined_to : (Text → Bool) → Told → Option Text
joined_to us (Joined channel valid who account) = if us who.key then Some channel.key else None
joined_to us _ = None
