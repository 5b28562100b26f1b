-- What clients asked of the network that outlives a connection.
use Rattle.std.specs.Prelude.{Bool, true, false, List, [], codes, if◌then◌else◌}
use Rattle.irc_line.specs.Line.{Parts, has_command}
use Rattle.irc_support.specs.Settings.{mapping_of}
use Rattle.net_view.specs.Arrival.{Arrival, Received, Lost}
use Rattle.net_view.specs.View.{View}
use Rattle.hub_core.specs.declared.wishes.Wish.{Wish}
use Rattle.hub_core.specs.declared.wishes.Wish.TheVariants as wish
use Rattle.hub_core.specs.declared.wishes.Wishes.{Wishes}
use Rattle.hub_core.specs.Away.{AwayState, away_heard, away_of, away_said, kept_text, not_away}
use Rattle.hub_core.specs.JoinKeys.{JoinKeyParts, ask_all, join_keys, joined_in, keys_heard}

-- the AWAY that was asked for, whether a nick was asked for over this connection, and the keys by
-- which channels were joined
pub record WishesState : Type 0 where
  pub away : AwayState
  pub nick : Bool
  pub keys : List JoinKeyParts

-- nothing was asked for
abbrev pub no_wishes : WishesState
no_wishes = record { away = not_away; nick = false; keys = [] }

-- after a line of a client was forwarded, by the view then: an AWAY, a NICK or a JOIN (RFC 2812,
-- sections 4.1, 3.1.2 and 3.2.1)
abbrev pub wishes_said : View → Parts → WishesState → WishesState
wishes_said v line w =
    if has_command line (codes "NICK") then record w { nick = true } else
    if has_command line (codes "JOIN")
    then record w { keys = ask_all (mapping_of v.settings) (joined_in line) w.keys }
    else record w { away = away_said line w.away }

-- a new connection begins with another nick
abbrev pub nick_heard : Arrival → Bool → Bool
nick_heard (Received line) asked = asked
nick_heard Lost asked = false

-- after an item, by the view before it
abbrev pub wishes_heard : View → Arrival → WishesState → WishesState
wishes_heard v x w = record {
  away = away_heard x w.away;
  nick = nick_heard x w.nick;
  keys = keys_heard v x w.keys;
}

-- what contracts see of them
abbrev pub wishes_of : Wishes → WishesState
wishes_of w = record { away = away_of w.away; nick = w.nick; keys = join_keys w.keys.items }

-- after what a line asks for
abbrev pub wished : Wish → WishesState → WishesState
wished wish.Nothing w = w
wished wish.Nick w = record w { nick = true }
wished (wish.Away text) w = record w { away = record w.away { asked = kept_text text } }
wished (wish.Join keys) w = record w { keys = join_keys keys.items }
