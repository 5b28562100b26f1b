-- What is known of a person while in sight: spelling, account and away text.
use Rattle.std.specs.Prelude.{Bool, ◌&&◌, List, [], ◌∷◌, if◌then◌else◌}
use Rattle.std.specs.List.{list_any}
use Rattle.std.specs.Option.{option_and_then, option_map, unwrap_or}
use Rattle.std.proofs.Common.{Option, Some, None}
use Rattle.irc_support.specs.Text.{Text}
use Rattle.net_view.specs.Names.{same}
use Rattle.net_view.specs.Told.{Told, Listing, Joined, Renamed, Present, HasAccount, IsAway}
use Rattle.net_view.specs.Transcript.{Reading, ours}
use Rattle.net_view.specs.LookBack.{last_in, counts, name_before}
use Rattle.net_view.specs.Presence.{is_on}
use Rattle.net_view.specs.Members.{is_member}
use Rattle.net_view.specs.Named.{named, channels_in}

-- whether the person is a member of some channel that we are on (our own choice: what is known of a
-- person is forgotten when the last such channel is left)
abbrev pub in_sight : List Reading → Text → Bool
in_sight items n = list_any (λ c. is_member items c n) (named channels_in items)

-- What an item says about persons: who we are, the channels that we are on after it, what it says,
-- the person's key after it. Some None: that there is nothing.
abbrev pub Says : Type 0
Says = (Text → Bool) → (Text → Bool) → Told → Text → Option (Option Text)

-- what was said last about the person, followed back under the earlier names, if the person has
-- been in sight at every boundary since
abbrev pub known : Says → List Reading → Text → Option Text
known says [] n = None
known says (x ∷ older) n =
    if in_sight (x ∷ older) n
    then unwrap_or (says (ours x) (is_on (x ∷ older)) x.told n)
    (option_and_then (known says older) (name_before (ours x) x.told n))
    else None

-- the spelling in a name list
abbrev pub spelled_in : Text → Listing → Option Text
spelled_in n l = if same n l.person.key then Some l.person.spelled else None

-- JOIN and 353 of a channel that we are on, and NICK, give a spelling
abbrev pub says_spelling : Says
says_spelling us on (Joined channel valid who account) n =
    if on channel.key && same n who.key then Some (Some who.spelled) else None
says_spelling us on (Present channel listings) n =
    if on channel then option_map Some (last_in (spelled_in n) listings) else None
says_spelling us on (Renamed old new) n =
    if counts us old new.key && same n new.key then Some (Some new.spelled) else None
says_spelling us on _ n = None

-- JOIN of a channel that we are on and ACCOUNT give an account (IRCv3 extended-join,
-- account-notify)
abbrev pub says_account : Says
says_account us on (Joined channel valid who account) n =
    if on channel.key && same n who.key then account else None
says_account us on (HasAccount who account) n = if same n who then Some account else None
says_account us on _ n = None

-- AWAY gives an away text (IRCv3 away-notify)
abbrev pub says_away : Says
says_away us on (IsAway who text) n = if same n who then Some text else None
says_away us on _ n = None

-- the nick as the person was spelled last
abbrev pub spelling_of : List Reading → Text → Option Text
spelling_of items n = known says_spelling items n

-- the account of the person (IRCv3 account-notify)
abbrev pub account_of : List Reading → Text → Option Text
account_of items n = known says_account items n

-- the away text of the person (IRCv3 away-notify)
abbrev pub away_of : List Reading → Text → Option Text
away_of items n = known says_away items n
