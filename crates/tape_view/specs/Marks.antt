-- What a line says about us: who does it, whom it names, and our nick.
use Rattle.std.specs.Prelude.{◌≡◌, Bool, false, List, if◌then◌else◌}
use Rattle.std.specs.Option.{option_map_or}
use Rattle.std.proofs.Common.{Option, Some, None}
use Rattle.irc_support.specs.Text.{Text}
use Rattle.irc_support.specs.Tokens.{Token}
use Rattle.irc_support.specs.Settings.{key_by}
use Rattle.net_view.specs.Names.{same}
use Rattle.net_view.specs.Told as spec
use Rattle.tape_view.specs.declared.kept.Marks.{Marks}

-- whether a key is that of this nick of ours, under these settings
abbrev pub us_of : List Token → Option Text → Text → Bool
us_of settings own key = elim own [ None ↦ false | Some nick ↦ same (key_by settings nick) key ]

-- the person that a line comes from, if the line depends on that
abbrev pub doer : spec.Told → Option Text
doer (spec.Joined channel valid who account) = Some who.key
doer (spec.Parted channel who) = Some who
doer (spec.Quits who) = Some who
doer (spec.Renamed old new) = Some old
doer _ = None

-- the person that a line names, if the line depends on that
abbrev pub person_named : spec.Told → Option Text
person_named (spec.Kicked channel who) = Some who
person_named (spec.Renamed old new) = Some new.key
person_named _ = None

-- the marks of a line: whether it comes from us, and whether it names us
pub record IsMarked (us : Text → Bool) (t : spec.Told) (marks : Marks) : Type 0 where
  pub by_us : marks.by_us ≡ option_map_or us (doer t) false
  pub names_us : marks.names_us ≡ option_map_or us (person_named t) false

-- the nick that is ours from here on, if it says one
abbrev pub own_said : (Text → Bool) → spec.Told → Option Text
own_said us (spec.Welcomed nick) = Some nick
own_said us (spec.Renamed old new) = if us old then Some new.spelled else None
own_said us _ = None
