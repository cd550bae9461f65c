use Rattle.std.proofs.Common.{◌≡◌, ap, arith}
use Rattle.kinds.specs.Calendar.{seconds_in}
use Rattle.kinds.specs.Rows.{before}
use Rattle.kinds.specs.Dates.{days_before, seconds_before}
use Rattle.cases.proofs.keys.place_of_year_2000.Goals as goal

-- thirty years from 1970 have 10,957 days, each of 86,400 seconds
pub returns : goal.returns
returns c =
    let made = rw c.unwrap.ensures at c.try_from.ensures in
    let day : c.unwrap.result.day ≡ 10957 = omega (arith, made.1, days_before 30 (omega arith)) in
    omega (arith, c.place.ensures, ap (before seconds_in) day, seconds_before 10957, made.2)
