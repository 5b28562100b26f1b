-- What one item says. Names of channels and persons are keys, except where a spelling is given.
use Rattle.std.specs.Prelude.{ℕ, Bool, List}
use Rattle.std.proofs.Common.{Option}
use Rattle.irc_support.specs.Text.{Text}
use Rattle.net_view.specs.Names.{Name}

-- the letter of a rank, 0 the highest, given to a member or taken (RFC 2812, section 3.2.3; PREFIX
-- of the isupport draft, section 3.14)
pub record LetterChange : Type 0 where
  pub plus : Bool
  pub rank : ℕ
  pub person : Text

-- a mode of a channel: None if it is off; else on, with its parameter if it has one
pub record ModeChange : Type 0 where
  pub letter : ℕ
  pub setting : Option (Option Text)

-- a word of a name list: a person, with the ranks that its symbols show
pub record Listing : Type 0 where
  pub person : Name
  pub ranks : List ℕ

-- what an item says
pub data Told : Type 0 where
  -- nothing
  Silent : Told
  -- the network takes us in under this nick: all starts again
  Welcomed : Text → Told
  -- 005, with these parameters: more settings
  Supports : List Text → Told
  -- the settings are fixed from here on
  Settles : Told
  -- channel; whether it is a channel name; person; the account, if the line gives one or says that
  -- there is none
  Joined : Name → Bool → Name → Option (Option Text) → Told
  -- channel and person
  Parted : Text → Text → Told
  Kicked : Text → Text → Told
  -- person
  Quits : Text → Told
  -- the person of this key is called by this name
  Renamed : Text → Name → Told
  -- changes of a channel's letters and modes, in order
  Changed : Text → List LetterChange → List ModeChange → Told
  -- the channel has these modes, by changes in order, and no others
  Listed : Text → List ModeChange → Told
  -- the channel's topic
  Titled : Text → Option Text → Told
  -- these are members of the channel
  Present : Text → List Listing → Told
  -- the person's account
  HasAccount : Text → Option Text → Told
  -- the person's away text
  IsAway : Text → Option Text → Told
  -- the connection is lost
  Disconnected : Told
