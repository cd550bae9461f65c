use Rattle.rangemap.proofs.Looks.{does_list}
use Rattle.rangemap.proofs.map.RangeMap.gaps.Goals as goal

pub returns-clause-does : goal.returns-clause-does
returns-clause-does g c = does_list g.K.Key g.V.Value.equals g.met.V.Value.lawful c.args.self.now.store
