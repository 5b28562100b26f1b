-- The times that are put into the texts of messages, for clients without server-time. All of it is
-- our own choice.
use Rattle.std.specs.Prelude.{◌≡◌, ◌⊎◌, ℕ, ◌+◌, ◌-◌, ◌*◌, ◌/◌, ◌%◌, Bool, false, ◌&&◌, ◌==◌, pos, nat_le}
use Rattle.std.specs.Prelude.{nat_lt, if◌then◌else◌, get_or, drop, List, [], ◌∷◌, ◌++◌, Option, Some}
use Rattle.std.specs.Prelude.{None, codes, option_map}
use Rattle.jiff_core.specs.Calendar.{days_in_month}
use Rattle.irc_line.specs.Tags.{has_form, time_form}
use Rattle.irc_support.specs.Text.{Text}
use Rattle.client_caps.specs.declared.caps.Caps.{Caps}
use Rattle.client_caps.specs.Moment.{last_digits}
use Rattle.history.specs.Entry.{EntryParts}
use Rattle.history.specs.Keeping.{is_action, is_ctcp}
use Rattle.welcome.specs.declared.playing.Offset.{Offset}
use Rattle.welcome.specs.declared.times.Day.{Day}
use Rattle.welcome.specs.declared.times.Minute.{Minute}

-- ---- the minute that a text of a time spells

abbrev pub digit_at : Text → ℕ → ℕ
digit_at text at = get_or text at 48 - 48

-- the number of the two digits from a place on
abbrev pub two_at : Text → ℕ → ℕ
two_at text at = digit_at text at * 10 + digit_at text (at + 1)

-- by the places of YYYY-MM-DDThh:mm:ss.sssZ
abbrev pub spelled : Text → Minute
spelled text = record {
  day = record {
    year = two_at text 0 * 100 + two_at text 2;
    month = two_at text 5;
    day = two_at text 8;
  };
  minute = two_at text 11 * 60 + two_at text 14;
}

abbrev pub is_day : Day → Bool
is_day d =
    (nat_le 1 d.month && nat_le d.month 12)
    && (nat_le 1 d.day && nat_le d.day (days_in_month (pos d.year) d.month))

-- a second 60 is one that was inserted (IRCv3 server-time)
abbrev pub is_clock : Text → Bool
is_clock text =
    nat_lt (two_at text 11) 24 && (nat_lt (two_at text 14) 60 && nat_lt (two_at text 17) 61)

-- whether it is a moment of the calendar
unfoldable pub is_moment : Text → Bool
is_moment text = has_form time_form text && (is_day (spelled text).day && is_clock text)

-- ---- the same minute in a zone

-- the day before and the day after, in the years 0000 to 9999
abbrev pub day_before : Day → Option Day
day_before d =
    if nat_lt 1 d.day then Some (record { year = d.year; month = d.month; day = d.day - 1 }) else
    if nat_lt 1 d.month then Some (record {
      year = d.year;
      month = d.month - 1;
      day = days_in_month (pos d.year) (d.month - 1);
    }) else
    if nat_lt 0 d.year then Some (record { year = d.year - 1; month = 12; day = 31 }) else None

abbrev pub day_after : Day → Option Day
day_after d =
    if nat_lt d.day (days_in_month (pos d.year) d.month)
    then Some (record { year = d.year; month = d.month; day = d.day + 1 }) else
    if nat_lt d.month 12 then Some (record { year = d.year; month = d.month + 1; day = 1 }) else
    if nat_lt d.year 9999 then Some (record { year = d.year + 1; month = 1; day = 1 }) else None

-- the minute in a zone, counted from the midnight before the day's own
abbrev pub zone_minute : Offset → ℕ → ℕ
zone_minute offset minute =
    if offset.is_before then (1440 + minute) - offset.minutes else (1440 + minute) + offset.minutes

abbrev pub zone_day : Day → ℕ → Option Day
zone_day d minute =
    if nat_lt minute 1440 then day_before d else if nat_lt minute 2880 then Some d else day_after d

abbrev pub in_zone : Offset → Minute → Option Minute
in_zone offset at =
    option_map (λ day. record { day = day; minute = zone_minute offset at.minute % 1440 })
    (zone_day at.day (zone_minute offset at.minute))

-- the minute in a zone at which a message came; none of a time that is none
unfoldable pub shown_at : Offset → Text → Option Minute
shown_at offset time = if is_moment time then in_zone offset (spelled time) else None

-- ---- what is put into a text

-- `[HH:MM] `
abbrev pub short_stamp : Minute → Text
short_stamp at =
    91 ∷ (last_digits 2 (at.minute / 60) ++ (58 ∷ (last_digits 2 (at.minute % 60) ++ codes "] ")))

-- `[YYYY-MM-DD HH:MM] `
abbrev pub long_stamp : Minute → Text
long_stamp at =
    91 ∷ (last_digits 4 at.day.year
    ++ (45 ∷ (last_digits 2 at.day.month
    ++ (45 ∷ (last_digits 2 at.day.day
    ++ (32 ∷ (last_digits 2 (at.minute / 60)
    ++ (58 ∷ (last_digits 2 (at.minute % 60) ++ codes "] ")))))))))

abbrev pub is_on : Option Day → Day → Bool
is_on None day = false
is_on (Some d) day = d.year == day.year && (d.month == day.month && d.day == day.day)

-- the date is in it too, unless the message before came on the same day
unfoldable pub stamp : Option Day → Minute → Text
stamp before at = if is_on before at.day then short_stamp at else long_stamp at

abbrev pub action_word : Text
action_word = 1 ∷ codes "ACTION"

abbrev pub after_space : Text → Text
after_space [] = []
after_space (b ∷ bs) = if b == 32 then bs else b ∷ bs

-- in an ACTION it comes after the word, in other CTCP nowhere, else at the front
unfoldable pub with_stamp : Text → Text → Text
with_stamp stamp text =
    if is_action text then action_word ++ (32 ∷ (stamp ++ after_space (drop 7 text))) else
    if is_ctcp text then text else stamp ++ text

-- ---- messages with their times

abbrev pub with_text : EntryParts → Text → EntryParts
with_text e text = record e { text = text }

abbrev pub stamped_entry : Option Day → Option Minute → EntryParts → EntryParts
stamped_entry before None e = e
stamped_entry before (Some at) e = with_text e (with_stamp (stamp before at) e.text)

abbrev pub day_of : Option Minute → Option Day
day_of at = option_map (λ (m : Minute). m.day) at

-- those of a group, after one of this day
abbrev pub stamped_from : Offset → Option Day → List EntryParts → List EntryParts
stamped_from offset before [] = []
stamped_from offset before (e ∷ es) =
    stamped_entry before (shown_at offset e.time) e
    ∷ stamped_from offset (day_of (shown_at offset e.time)) es

-- those of a group: as they are without `times` or with server-time
abbrev pub stamped : Option Offset → Caps → List EntryParts → List EntryParts
stamped None caps es = es
stamped (Some offset) caps es = if caps.server_time then es else stamped_from offset None es

-- ---- what is said of a message

-- a text with something added at its front, or after the word of an ACTION
pub record IsTextOf (text said : Text) : Type 0 where
  pub front : Text
  pub added : Text
  pub rest : Text
  pub placed : (front ≡ []) ⊎ ((front ≡ action_word) ⊎ (front ≡ action_word ++ 32 ∷ []))
  pub whole : text ≡ front ++ rest
  pub longer : said ≡ front ++ (added ++ rest)

-- its source, its command, its target and its time, and its text with what is added
pub record IsSaidOf (e said : EntryParts) : Type 0 where
  pub source : said.source ≡ e.source
  pub command : said.command ≡ e.command
  pub target : said.target ≡ e.target
  pub time : said.time ≡ e.time
  pub text : IsTextOf e.text said.text

-- each in its place
abbrev pub AreSaidOf : List EntryParts → List EntryParts → Type 0
AreSaidOf [] [] = Unit {0}
AreSaidOf [] (s ∷ said) = ⊥
AreSaidOf (e ∷ es) [] = ⊥
AreSaidOf (e ∷ es) (s ∷ said) = IsSaidOf e s × AreSaidOf es said
