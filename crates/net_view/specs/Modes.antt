-- The modes of a channel (RFC 2812, section 3.2.3; CHANMODES of the isupport draft, section 3.3).
use Rattle.std.specs.Prelude.{ℕ, Bool, List, if◌then◌else◌}
use Rattle.std.specs.Option.{unwrap_or}
use Rattle.std.specs.Ordering.{nat_cmp, eq_by_cmp}
use Rattle.std.proofs.Common.{Option, Some, None}
use Rattle.irc_support.specs.Text.{Text}
use Rattle.net_view.specs.Names.{same}
use Rattle.net_view.specs.Told.{Told, ModeChange, Changed, Listed}
use Rattle.net_view.specs.Transcript.{Reading}
use Rattle.net_view.specs.LookBack.{last, last_in}
use Rattle.net_view.specs.Presence.{anew_or}

-- what a change decides about a letter, if it is this letter
abbrev pub setting_of : ℕ → ModeChange → Option (Option (Option Text))
setting_of letter change =
    if eq_by_cmp nat_cmp letter change.letter then Some change.setting else None

-- MODE decides the letters that it changes; 324 decides each letter, and those that it does not
-- list are off
abbrev pub said_of_mode : Text → ℕ → Told → Option (Option (Option Text))
said_of_mode c letter (Changed channel letters modes) =
    if same c channel then last_in (setting_of letter) modes else None
said_of_mode c letter (Listed channel modes) =
    if same c channel then Some (unwrap_or (last_in (setting_of letter) modes) None) else None
said_of_mode c letter _ = None

-- at our own JOIN every letter is off
abbrev pub says_mode : Text → ℕ → (Text → Bool) → Told → Option (Option (Option Text))
says_mode c letter us t = anew_or c us t None (said_of_mode c letter t)

-- what the last MODE or 324 of the channel decided about a letter since our own JOIN. None: it is
-- off; Some of its parameter, if it has one: it is on
abbrev pub mode_of : List Reading → Text → ℕ → Option (Option Text)
mode_of items c letter = unwrap_or (last (says_mode c letter) items) None
