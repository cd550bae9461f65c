use Rattle.lawful.specs.Grid.{grid_past}
use Rattle.lawful.proofs.pair.row_and_column.Goals as goal

pub returns-clause-past : goal.returns-clause-past
returns-clause-past c m h = grid_past m c.args.n c.args.p h
