use Rattle.std.proofs.Common.{◌≡◌, ℕ, subst, arith}
use Rattle.rangemap.specs.Maps.{stored}
use Rattle.rangemap.specs.Search.{Last, Splits, Stands}
use Rattle.rangemap.proofs.Looks.{len_listed}
use Rattle.rangemap.proofs.Walking.{splits_count, splits_last, splits_stands}
use Rattle.rangemap.proofs.map.RangeMap.first_past.Goals as goal

pub returns-in_default-clause-splits : goal.returns-in_default-clause-splits
returns-in_default-clause-splits g c =
    let m = c.args.self.now in
    λ rises. splits_count g.K.Key.COUNT c.args.place (stored g.K.Key m.store) rises c.len.result c.in_default.ensures (omega (arith, len_listed g.K.Key m.store))

pub returns-in-Ok-clause-splits : goal.returns-in-Ok-clause-splits
returns-in-Ok-clause-splits g c =
    let m = c.args.self.now in
    let p = g.K.Key.place c.in-Some.key in
    let e : p ≡ c.args.place = c.in-Some.ensures in
    let f = c.in-Ok.ensures in
    λ rises. let last = subst (λ x. Last 0 x.low x.high (stored g.K.Key m.store) c.in-Ok.addr) c.single.ensures (f.found (g.K.Key.COUNT, rises)) in
    subst (λ (q : ℕ). Splits q (stored g.K.Key m.store) c.in-Ok.addr) e
    (splits_last g.K.Key.COUNT p (stored g.K.Key m.store) rises c.in-Ok.addr (omega (arith, f.within, len_listed g.K.Key m.store)) last)

pub returns-in-Ok-2-clause-splits : goal.returns-in-Ok-2-clause-splits
returns-in-Ok-2-clause-splits g c =
    let m = c.args.self.now in
    let p = g.K.Key.place c.in-Some.key in
    let e : p ≡ c.args.place = c.in-Some.ensures in
    λ rises. let stands = subst (λ x. Stands 0 x.low x.high (stored g.K.Key m.store) c.in-Ok.addr) c.single.ensures (c.in-Ok.ensures.found (g.K.Key.COUNT, rises)) in
    subst (λ (q : ℕ). Splits q (stored g.K.Key m.store) c.in-Ok.addr) e
    (splits_stands g.K.Key.COUNT p (stored g.K.Key m.store) rises c.in-Ok.addr stands)
