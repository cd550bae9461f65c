-- The sums of the calendar rule, worked out. Assumes nothing.
use Rattle.std.specs.Prelude.{◌≡◌, ℕ, zero, suc, ◌+◌, ◌-◌, ◌*◌, ◌/◌, ◌<◌, ◌≤◌, refl}
use Rattle.std.proofs.Common.{ap, arith}
use Rattle.std.proofs.lemmas.Bool.Decides.{nat_tests}
use Rattle.kinds.specs.Rows.{before}
use Rattle.kinds.specs.Calendar.{days_in, days_to, seconds_in}

pub seconds_before : (d : ℕ) → before seconds_in d ≡ 86400 * d
unfolding before
seconds_before zero = refl
seconds_before (suc d) = omega (arith, seconds_before d)

-- from 1970 to 2099 a leap year comes every four years
days_by_four : (n : ℕ) → n < 130 → days_in (1970 + n) + (n + 1) / 4 ≡ 365 + (n + 2) / 4
days_by_four n h = grind (arith, nat_tests)

pub days_before : (n : ℕ) → n ≤ 130 → before (λ k. days_in (1970 + k)) n ≡ 365 * n + (n + 1) / 4
unfolding before
days_before zero h = refl
days_before (suc n) h = omega (arith, days_before n (omega arith), days_by_four n (omega arith))

-- the count of seconds
pub seconds_all : before seconds_in 47482 ≡ 4102444800
seconds_all = seconds_before 47482

-- no day of a year passes the last
pub days_within : (year : ℕ) → 1970 ≤ year → year ≤ 2099 → days_to year + days_in year ≤ 47482
days_within year h k =
    let same : 1970 + (year - 1970) ≡ year = omega arith in
    omega (arith, days_before (year - 1970) (omega arith), days_by_four (year - 1970) (omega arith), ap days_in same)
