-- What a line says, with names as they are spelled, and what it means.
use Rattle.std.specs.Prelude.{List}
use Rattle.std.specs.List.{filter_map}
use Rattle.std.specs.Option.{option_map, unwrap_or}
use Rattle.std.proofs.Common.{Option}
use Rattle.irc_support.specs.Tokens.{Token}
use Rattle.irc_support.specs.Settings.{is_channel, key_by}
use Rattle.irc_support.specs.Line.{changes_in, words_in}
use Rattle.net_view.specs.Names.{name_of}
use Rattle.net_view.specs.Told as spec
use Rattle.net_view.specs.StateLines.{letter_change, mode_change, listing}
use Rattle.net_view.specs.declared.state_line.Telling.{Telling}
use Rattle.net_view.specs.declared.state_line.Telling.TheVariants.{Silent, Welcomed, Supports}
use Rattle.net_view.specs.declared.state_line.Telling.TheVariants.{Settles, Joined, Parted, Kicked}
use Rattle.net_view.specs.declared.state_line.Telling.TheVariants.{Quits, Renamed, Changed, Listed}
use Rattle.net_view.specs.declared.state_line.Telling.TheVariants.{Titled, Present, HasAccount}
use Rattle.net_view.specs.declared.state_line.Telling.TheVariants.{IsAway}

-- what it means under these settings
abbrev pub meant : {A : Type 0} → List Token → Telling A → spec.Told
meant settings Silent = spec.Silent
meant settings (Welcomed nick) = spec.Welcomed nick.now
meant settings Settles = spec.Settles
meant settings (Supports line) = spec.Supports line.now.params
meant settings (Joined channel who account) =
    spec.Joined (name_of settings channel.now) (is_channel settings channel.now)
    (name_of settings who.now) (option_map (option_map (λ name. name.now)) account)
meant settings (Parted channel who) =
    spec.Parted (key_by settings channel.now) (key_by settings who.now)
meant settings (Kicked channel who) =
    spec.Kicked (key_by settings channel.now) (key_by settings who.now)
meant settings (Quits who) = spec.Quits (key_by settings who.now)
meant settings (Renamed old new) = spec.Renamed (key_by settings old.now) (name_of settings new.now)
meant settings (Changed channel line) =
    spec.Changed (key_by settings channel.now)
    (filter_map (letter_change settings) (changes_in settings line.now))
    (filter_map (mode_change settings) (changes_in settings line.now))
meant settings (Listed channel line) =
    spec.Listed (key_by settings channel.now)
    (filter_map (mode_change settings) (changes_in settings line.now))
meant settings (Present channel line) =
    spec.Present (key_by settings channel.now)
    (filter_map (listing settings) (words_in settings line.now))
meant settings (HasAccount who account) =
    spec.HasAccount (key_by settings who.now) (option_map (λ name. name.now) account)
meant settings (IsAway who text) =
    spec.IsAway (key_by settings who.now) (option_map (λ t. t.now) text)
meant settings (Titled channel text) =
    spec.Titled (key_by settings channel.now) (option_map (λ t. t.now) text)

-- the same if there may be none: then the settings are fixed
abbrev pub meant_or_settles : {A : Type 0} → List Token → Option (Telling A) → spec.Told
meant_or_settles settings found = unwrap_or (option_map (meant settings) found) spec.Settles
