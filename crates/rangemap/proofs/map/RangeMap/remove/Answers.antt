use Rattle.std.proofs.Common.{refl, arith}
use Rattle.std.proofs.lemmas.Result.{err_from_is_err_and}
use Rattle.rangemap.proofs.Edits.{remove_missed, remove_taken, remove_full}
use Rattle.rangemap.proofs.map.RangeMap.remove.Goals as goal

pub returns-in_default-address_of-clause-does : goal.returns-in_default-address_of-clause-does
returns-in_default-address_of-clause-does g c =
    let m = c.args.self.now in
    remove_missed g.K.Key g.V.Value.equals g.met.V.Value.lawful m.store c.args.key c.in-Some.held.range c.in_default-address_of.field-0 _ c.in-Some.ensures c.in_default-address_of.ensures.found c.len-in_default-address_of.ensures

pub invariant_of-self : goal.invariant_of-self
invariant_of-self g c =
    let m = c.args.self.now in
    let walk = c.cut_back.ensures in
    ((walk.few, (omega (arith, walk.room, m.store.roomy), (m.store.spare, tt))), (m.limited, tt))

pub returns-clause-does : goal.returns-clause-does
returns-clause-does g c =
    let m = c.args.self.now in
    remove_taken g.K.Key g.V.Value.equals g.met.V.Value.lawful m.store c.args.key c.in-Some.held.range c.in-Some.ensures c.in-Some.held.held _ _ refl c.len-2.ensures (rw c.in-Some.ensures at c.in_ok-cut_back.ensures.taken)

pub returns-in_err-cut_back-clause-does : goal.returns-in_err-cut_back-clause-does
returns-in_err-cut_back-clause-does g c =
    let p = err_from_is_err_and c.from_residual.result c.from_residual.ensures.1 in
    let taken = rw c.in-Some.ensures at c.in_err-cut_back.ensures.taken in
    let m = c.args.self.now in
    rw (p.1, p.2, taken.0) (remove_full g.K.Key g.V.Value.equals g.met.V.Value.lawful m.store c.args.key c.in-Some.held.range c.in-Some.ensures c.in-Some.held.held _ _ refl taken.1 (omega arith))
