-- The days of the calendar, counted one by one.
use Rattle.jiff_core.specs.declared.civil.date.Date as civil
use Rattle.client_caps.proofs.Words.{Date, ap, arith, nat_tests, refl, suc}
use Rattle.client_caps.{proofs.Words.{zero, ℕ, ◌+◌, ◌<◌, ◌∙◌, ◌≡◌, ◌≤◌}, specs.Moment.date_of}
use Rattle.{client_caps.specs.Moment.day_after, jiff_core.proofs.CalendarLemmas.day_count-day}
use Rattle.jiff_core.proofs.CalendarLemmas.{day_count-epoch, day_count-lt_month, day_count-lt_year}
use Rattle.jiff_core.proofs.CalendarLemmas.{days_from_civil-day_count, days_in_month_bounds}
use Rattle.jiff_core.proofs.DateLemmas.{days_from_civil-day, days_from_civil-next_month}
use Rattle.jiff_core.proofs.{DateLemmas.days_from_civil-next_year, SignedLemmas.signed_arith}
use Rattle.jiff_core.specs.Calendar.{IsCivilDate, day_count, days_from_civil, days_in_month}
use Rattle.{jiff_core.specs.Date.epoch_day, std.proofs.Common.{pos, unsigned_abs, ℤ}}
use Rattle.std.{proofs.lemmas.{Bool.cases_order, Int.by_lt_z}, specs.Int.IsInRange}

-- a date of the calendar, and its day number
pub record IsDay (n : ℕ) (date : Date) : Type 0 where
  pub number : days_from_civil (pos date.year) date.month date.day ≡ pos n
  pub month : IsInRange 1 12 date.month
  pub day : IsInRange 1 (days_in_month (pos date.year) date.month) date.day

next_day : (n y m d : ℕ) → days_from_civil (pos y) m d ≡ pos n → IsInRange 1 12 m → 1 ≤ d
    → d < days_in_month (pos y) m → IsDay (suc n) (record { year = y; month = m; day = d + 1 })
next_day n y m d e month first lt = record {
  number = let next = days_from_civil-day (pos y) m d (d + 1) first (omega arith) in
      omega (arith, signed_arith, e, next);
  month = month;
  day = (omega arith, omega (arith, lt));
}

next_month : (n y m d : ℕ) → days_from_civil (pos y) m d ≡ pos n → 1 ≤ m → m < 12
    → d ≡ days_in_month (pos y) m → IsDay (suc n) (record { year = y; month = m + 1; day = 1 })
next_month n y m d e first lt last = record {
  number = omega (arith, signed_arith, e, days_from_civil-next_month (pos y) m d first last);
  month = (omega arith, omega (arith, lt));
  day = (omega arith, omega (arith, days_in_month_bounds (pos y) (m + 1)));
}

next_year : (n y m d : ℕ) → days_from_civil (pos y) m d ≡ pos n → m ≡ 12
    → d ≡ days_in_month (pos y) m → IsDay (suc n) (record { year = y + 1; month = 1; day = 1 })
next_year n y m d e twelve last =
    let long : days_in_month (pos y) 12 ≡ 31 = refl in
    let d31 : d ≡ 31 = last ∙ ap (days_in_month (pos y)) twelve ∙ long in
    let e' : days_from_civil (pos y) 12 31 ≡ pos n = rw (← twelve, ← d31) e in
    let next = days_from_civil-next_year (pos y) (pos (y + 1)) (omega (arith, signed_arith))
    (omega (arith, signed_arith)) in
    record {
      number = omega (arith, signed_arith, e', next);
      month = (omega arith, omega arith);
      day = (omega arith, omega (arith, days_in_month_bounds (pos (y + 1)) 1));
    }

day_after_is : (n : ℕ) (date : Date) → IsDay n date → IsDay (suc n) (day_after date)
day_after_is n date is =
    let day = next_day n date.year date.month date.day is.number is.month is.day.0 in
    let month = next_month n date.year date.month date.day is.number is.month.0 in
    let year = next_year n date.year date.month date.day is.number in
    grind (arith, nat_tests, is.month, is.day, day, month, year)

pub days_count : (n : ℕ) → IsDay n (date_of n)
unfolding date_of
days_count zero =
    record {
      number =
          omega (arith, signed_arith, days_from_civil-day_count (pos 1970) 1 1, day_count-epoch);
      month = (omega arith, omega arith);
      day = (omega arith, omega arith);
    }
days_count (suc n) = day_after_is n (date_of n) (days_count n)

same_in_year : (y : ℤ) (m d k e : ℕ) → IsCivilDate y m d → IsCivilDate y k e
    → day_count y m d ≡ day_count y k e → (m ≡ k) × (d ≡ e)
same_in_year y m d k e a b same =
    let less = day_count-lt_month y m d k e a b.2.0 in
    let more = day_count-lt_month y k e m d b a.2.0 in
    grind (arith, nat_tests, same, cases_order m k, less, more, day_count-day y m d e a.2.0 b.2.0)

-- the calendar's dates go by their day numbers
pub same_day : (n : ℕ) (date : Date) (y : ℤ) (m d : ℕ) → IsDay n date → IsCivilDate y m d
    → days_from_civil y m d ≡ pos n → (y ≡ pos date.year) × (m ≡ date.month) × (d ≡ date.day)
same_day n date y m d is civil e =
    let count = days_from_civil-day_count y m d in
    let count' = days_from_civil-day_count (pos date.year) date.month date.day in
    let one : day_count y m d ≡ day_count (pos date.year) date.month date.day =
    omega (arith, signed_arith, e, is.number) in
    by_lt_z y (pos date.year)
    (λ lt. let less = day_count-lt_year y m d _ date.month date.day civil is.day.0 lt in
    absurd (omega (arith, one, less)))
    (λ ge. let civil' : IsCivilDate (pos date.year) date.month date.day =
    ((omega (arith, signed_arith, civil.0), omega (arith, signed_arith, civil.0)), is.month, is.day)
    in
    by_lt_z (pos date.year) y
    (λ gt. let more = day_count-lt_year _ date.month date.day y m d civil' civil.2.0 gt in
    absurd (omega (arith, one, more)))
    (λ le. let years : y ≡ pos date.year = omega (arith, signed_arith) in
    grind (arith, years, one, same_in_year y m d date.month date.day civil, civil')))

-- so the calendar's date of a day number is the one that is counted to
pub date_is : (n : ℕ) (date : civil.Date) → epoch_day date ≡ pos n → (unsigned_abs date.year
    ≡ (date_of n).year) × (date.month ≡ (date_of n).month) × (date.day ≡ (date_of n).day)
date_is n date e =
    let same = same_day n (date_of n) date.year date.month date.day (days_count n)
    (date.year_in, date.month_in, date.day_in) e in
    (ap unsigned_abs same.0, same.1, same.2)
