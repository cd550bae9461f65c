-- The calendar from 1970 to 2099: years, days of the year, seconds of the day. A day has a number, 0 at day 1 of 1970. Assumes nothing.
use Rattle.std.specs.Prelude.{ℕ, ◌+◌, ◌-◌, ◌*◌, ◌%◌, ◌<◌, ◌≤◌, Bool, cond, not, ◌&&◌, ◌||◌, ◌==◌}
use Rattle.kinds.specs.Rows.{before}
use Rattle.kinds.specs.declared.date.Date.{Date}

-- the Gregorian rule
abbrev pub leap : ℕ → Bool
leap year = (year % 4 == 0 && not (year % 100 == 0)) || year % 400 == 0

abbrev pub days_in : ℕ → ℕ
days_in year = cond (leap year) 366 365

-- the days from day 1 of 1970 to day 1 of a year
abbrev pub days_to : ℕ → ℕ
days_to year = before (λ n. days_in (1970 + n)) (year - 1970)

-- how many seconds a day has: the one place where a day's length stands
abbrev pub seconds_in : ℕ → ℕ
seconds_in day = 86400

-- the place of a second of a day: the seconds before it
abbrev pub place_of : ℕ → ℕ → ℕ
place_of day second = before seconds_in day + second

-- the number of the day of a date, the days of the year being counted from 1
abbrev pub day_of : Date → ℕ
day_of date = days_to date.year + (date.day - 1)

-- how many seconds the minute of a date has: 60, and the last of a day what the others leave
abbrev pub seconds_of_minute : Date → ℕ
seconds_of_minute date = cond (date.hour * 60 + date.minute == 1439) (seconds_in (day_of date) - 86340) 60

-- the second of the day
abbrev pub second_of : Date → ℕ
second_of date = date.hour * 3600 + date.minute * 60 + date.second

-- the year is from 1970 to 2099 and has the day
pub record NamesDay (date : Date) : Type 0 where
  pub from_1970 : 1970 ≤ date.year
  pub to_2099 : date.year ≤ 2099
  pub from_1 : 1 ≤ date.day
  pub to_last : date.day ≤ days_in date.year

-- the fields of a date are within their limits
pub record Dated (date : Date) : Type 0 where
  pub day : NamesDay date
  pub hours : date.hour < 24
  pub minutes : date.minute < 60
  pub seconds : date.second < seconds_of_minute date
