use Rattle.std.proofs.Common.{refl, ap, arith}
use Rattle.rangemap.specs.Contents.{Contents}
use Rattle.rangemap.proofs.Looks.{high_within}
use Rattle.rangemap.proofs.Edits.{does_empty, does_connected, does_full, does_store}
use Rattle.rangemap.proofs.map.RangeMap.insert_disconnected.Goals as goal

pub returns-in_default-clause-does : goal.returns-in_default-clause-does
returns-in_default-clause-does g c =
    let key = c.args.key in
    let m = c.args.self.now in
    does_empty g.K.Key g.V.Value.equals g.met.V.Value.lawful m.store key c.args.value (high_within g.K.Key g.met.K.Key.within key.end) c.in_default.ensures

pub returns-in-Ok-clause-does : goal.returns-in-Ok-clause-does
returns-in-Ok-clause-does g c =
    let key = c.args.key in
    let m = c.args.self.now in
    let f = c.in-Ok.ensures in
    does_connected g.K.Key g.V.Value.equals g.met.V.Value.lawful m.store key c.args.value (high_within g.K.Key g.met.K.Key.within key.end) (rw c.in-Some.ensures at c.in-Some.held.held) c.in-Ok.field-0 f.within (rw c.in-Some.ensures at f.found)

pub returns-then-len-self-clause-does : goal.returns-then-len-self-clause-does
returns-then-len-self-clause-does g c =
    let key = c.args.key in
    let m = c.args.self.now in
    let f = c.in-Err.ensures in
    does_full g.K.Key g.V.Value.equals g.met.V.Value.lawful m.store key c.args.value (high_within g.K.Key g.met.K.Key.within key.end) (rw c.in-Some.ensures at c.in-Some.held.held) c.in-Err.addr f.within (rw c.in-Some.ensures at f.found) (omega arith)

pub returns-else-len-self-clause-does : goal.returns-else-len-self-clause-does
returns-else-len-self-clause-does g c =
    let key = c.args.key in
    let m = c.args.self.now in
    let f = c.in-Err.ensures in
    does_store g.K.Key g.V.Value.equals g.met.V.Value.lawful m.store key c.args.value (high_within g.K.Key g.met.K.Key.within key.end) (rw c.in-Some.ensures at c.in-Some.held.held) c.in-Err.addr f.within (rw c.in-Some.ensures at f.found) _ c.len-in-Err.result refl
    c.len-in-Err.ensures (ap (λ (x : Contents _ _). x.items) c.insert_at.ensures)

pub returns-else-len-self-clause-stored : goal.returns-else-len-self-clause-stored
returns-else-len-self-clause-stored g c = (c.in-Err.addr, ap (λ (x : Contents _ _). x.items) c.insert_at.ensures)
