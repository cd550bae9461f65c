use Rattle.std.proofs.Common.{◌-◌, arith}
use Rattle.kinds.specs.Dates.{days_before}
use Rattle.kinds.proofs.date.days_to.Goals as goal

pub returns-clause-value : goal.returns-clause-value
returns-clause-value c = omega (arith, days_before (c.args.year - 1970) (omega arith))
