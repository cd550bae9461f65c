use Rattle.std.proofs.Common.{rules}
use Rattle.rangemap.proofs.Looks.{get_stored}
use Rattle.rangemap.proofs.map.RangeMap.get.Goals as goal

pub returns-in-Ok-clause-does : goal.returns-in-Ok-clause-does
returns-in-Ok-clause-does g c =
    let m = c.args.self.now in
    get_stored g.K.Key g.V.Value.equals g.met.V.Value.lawful m.store (g.K.Key.place c.args.key) c.in-Ok.addr c.single.result.range c.get_at.result (search rules) (search rules) (search rules) (search rules)
