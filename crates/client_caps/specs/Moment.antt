-- When a line came, as a tag has it (IRCv3 server-time: the time of ISO 8601, in UTC, with
-- milliseconds).
use Rattle.std.specs.Prelude.{ℕ, zero, suc, ◌+◌, ◌/◌, ◌%◌, pos, nat_lt, min}
use Rattle.std.specs.Prelude.{if◌then◌else◌, [], ◌∷◌, ◌++◌, codes}
use Rattle.jiff_core.specs.Calendar.{days_in_month}
use Rattle.irc_support.specs.Text.{Text}

-- ---- the calendar

-- a day of the Gregorian calendar
pub record Date : Type 0 where
  pub year : ℕ
  pub month : ℕ
  pub day : ℕ

-- the day after
abbrev pub day_after : Date → Date
day_after date =
    if nat_lt date.day (days_in_month (pos date.year) date.month)
    then record { year = date.year; month = date.month; day = date.day + 1 } else
    if nat_lt date.month 12 then record { year = date.year; month = date.month + 1; day = 1 } else
    record { year = date.year + 1; month = 1; day = 1 }

-- the day that comes this many days after 1970-01-01
unfoldable pub date_of : ℕ → Date
date_of zero = record { year = 1970; month = 1; day = 1 }
date_of (suc days) = day_after (date_of days)

-- ---- the text

-- the last decimal digits of a number, this many of them
abbrev pub last_digits : ℕ → ℕ → Text
last_digits zero n = []
last_digits (suc k) n = last_digits k (n / 10) ++ (48 + n % 10) ∷ []

-- a day, as 2000-02-29
abbrev pub day_text : Date → Text
day_text date =
    last_digits 4 date.year
    ++ (codes "-" ++ (last_digits 2 date.month ++ (codes "-" ++ last_digits 2 date.day)))

-- a time of day, in milliseconds since midnight, as 03:04:05.678Z
abbrev pub hour_text : ℕ → Text
hour_text ms =
    last_digits 2 (ms / 3_600_000)
    ++ (codes ":" ++ (last_digits 2 (ms / 60_000 % 60)
    ++ (codes ":" ++ (last_digits 2 (ms / 1_000 % 60)
    ++ (codes "." ++ (last_digits 3 (ms % 1_000) ++ codes "Z"))))))

-- 9999-12-31T23:59:59.999Z
abbrev pub last_moment : ℕ
last_moment = 253_402_300_799_999

-- a moment, in milliseconds since 1970-01-01T00:00:00Z, as 2000-02-29T03:04:05.678Z; what comes
-- after the years of four digits counts as their end (our own choice)
unfoldable pub time_text_of : ℕ → Text
time_text_of moment =
    let ms = min moment last_moment in
    day_text (date_of (ms / 86_400_000)) ++ (codes "T" ++ hour_text (ms % 86_400_000))
