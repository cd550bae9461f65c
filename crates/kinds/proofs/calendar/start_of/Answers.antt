use Rattle.std.proofs.Common.{arith}
use Rattle.kinds.specs.Dates.{seconds_before}
use Rattle.kinds.proofs.calendar.start_of.Goals as goal

pub returns-clause-value : goal.returns-clause-value
returns-clause-value c = omega (arith, seconds_before c.args.day)
