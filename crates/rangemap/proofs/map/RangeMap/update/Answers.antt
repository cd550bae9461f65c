use Rattle.std.proofs.Common.{refl}
use Rattle.ledger.specs.Ledger.{update}
use Rattle.rangemap.specs.Declines.{answer}
use Rattle.rangemap.specs.Maps.{Does, Keeps}
use Rattle.rangemap.specs.Ranges.{lo, hi}
use Rattle.rangemap.proofs.Bridges.{ends_within}
use Rattle.rangemap.proofs.Does.{does_settled}
use Rattle.rangemap.proofs.map.RangeMap.update.Goals as goal
use Rattle.rangemap.proofs.map.RangeMap.update.Goals.{After-settle}

settled : (g : _) (c : After-settle g) → Does g.K.Key g.V.Value.equals c.args.self.now.store (update (lo g.K.Key c.args.range) (hi g.K.Key c.args.range) (g.C.Change.makes c.args.change.now)) (answer c.settle.result) c.settle.new.self × Keeps c.args.self.now.store c.settle.result c.settle.new.self
settled g c =
    let m = c.args.self.now in
    let l = lo g.K.Key c.args.range in
    let h = hi g.K.Key c.args.range in
    let f = g.C.Change.makes c.args.change.now in
    does_settled g.K.Key g.V.Value.equals g.met.V.Value.lawful m.store l h f (update l h f) (ends_within g.K.Key g.met.K.Key.within c.args.range) refl c.copy.new.self _ c.settle.new.self c.copy.ensures refl refl c.update.ensures.changed c.settle.result c.settle.ensures

pub returns : goal.returns
returns g c = let s = settled g (goal.at.returns g c).After-settle in record { does = s.0; keeps = s.1 }
