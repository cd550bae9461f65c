use Rattle.std.proofs.Common.{refl}
use Rattle.std.proofs.lemmas.Bool.{false≢true}
use Rattle.ranges.specs.Parts.{span as ends}
use Rattle.rangemap.specs.Ranges.{slack}
use Rattle.rangemap.proofs.Rising.{full_at, last_found, stands_found}
use Rattle.rangemap.proofs.search.address_in.Goals as goal

pub returns-in-Some-clause-found : goal.returns-in-Some-clause-found
returns-in-Some-clause-found g c r =
    let f = c.in-Some.ensures in
    let xs = c.args.items.now in
    let key = ends g.K.Key c.args.key.now.range in
    let x = c.index-items-i.result in
    let m = (c.if-matches.ensures c.args.key.now.held (full_at g.K.Key xs c.in-Some.i x f.within r)).0 refl in
    last_found g.K.Key _ xs (slack c.args.connected) key.low key.high c.in-Some.i x refl f.within (f.found r) (m.starts, m.ends) r

pub returns-in-Some-2-clause-found : goal.returns-in-Some-2-clause-found
returns-in-Some-2-clause-found g c r =
    let f = c.in-Some.ensures in
    let xs = c.args.items.now in
    let key = ends g.K.Key c.args.key.now.range in
    let x = c.index-items-i.result in
    let m = c.if-matches.ensures c.args.key.now.held (full_at g.K.Key xs c.in-Some.i x f.within r) in
    stands_found g.K.Key _ xs (slack c.args.connected) key.low key.high c.in-Some.i x refl f.within (f.found r)
    (λ j. false≢true (m.1 (record { starts = j.0; ends = j.1 }))) r
