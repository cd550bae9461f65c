use Rattle.std.proofs.Common.{Some, refl}
use Rattle.ledger.specs.Ledger.{insert}
use Rattle.rangemap.specs.Declines.{answer}
use Rattle.rangemap.specs.Maps.{Does, Keeps}
use Rattle.rangemap.specs.Ranges.{lo, hi}
use Rattle.rangemap.proofs.Bridges.{ends_within}
use Rattle.rangemap.proofs.Does.{does_walked, does_settled}
use Rattle.rangemap.proofs.map.RangeMap.insert.Goals as goal
use Rattle.rangemap.proofs.map.RangeMap.insert.Goals.{After-settle}

pub returns-then-len-store-clause-does : goal.returns-then-len-store-clause-does
returns-then-len-store-clause-does g c =
    let m = c.args.self.now in
    let l = lo g.K.Key c.args.range in
    let h = hi g.K.Key c.args.range in
    does_walked g.K.Key g.V.Value.equals g.met.V.Value.lawful m.store l h (λ _. Some c.args.value) (insert l h c.args.value) (ends_within g.K.Key g.met.K.Key.within c.args.range) refl _ c.len-then-len-store.result refl c.insert.ensures.changed c.len-then-len-store.ensures

settled : (g : _) (c : After-settle g) → Does g.K.Key g.V.Value.equals c.args.self.now.store (insert (lo g.K.Key c.args.range) (hi g.K.Key c.args.range) c.args.value) (answer c.settle.result) c.settle.new.self × Keeps c.args.self.now.store c.settle.result c.settle.new.self
settled g c =
    let m = c.args.self.now in
    let l = lo g.K.Key c.args.range in
    let h = hi g.K.Key c.args.range in
    does_settled g.K.Key g.V.Value.equals g.met.V.Value.lawful m.store l h (λ _. Some c.args.value) (insert l h c.args.value) (ends_within g.K.Key g.met.K.Key.within c.args.range) refl c.copy.new.self _ c.settle.new.self c.copy.ensures refl refl c.insert-2.ensures.changed c.settle.result c.settle.ensures

pub returns : goal.returns
returns g c = let s = settled g (goal.at.returns g c).After-settle in record { does = s.0; keeps = s.1 }
