use Rattle.std.proofs.Common.{vec_items, ◌∙◌, arith}
use Rattle.rangemap.specs.Walks.{end}
use Rattle.rangemap.proofs.Walking.{climbs_spans, gather_none, gather_more, gather_all}
use Rattle.rangemap.proofs.map.walkers.all_ranges.Goals as goal

pub loop-item-init : goal.loop-item-init
loop-item-init g c =
    let m = c.args.map.now.store in
    let i = c.iter-walker.ensures in (
      omega (arith, i.place, i.left),
      λ rises. gather_none (end g.K.Key) m.items.items c.iter-walker.result.at.place (vec_items c.in_ok-out.out) i.place c.in_ok-out.ensures.items
          (climbs_spans g.K.Key 0 g.K.Key.COUNT m.items.items rises),
    )

pub loop-item-preserved : goal.loop-item-preserved
loop-item-preserved g c =
    let w = c.loop-item.walker in
    let s = c.in-Some.ensures in (
      s.total ∙ c.loop-item.invariant.0,
      λ rises. gather_more (end g.K.Key) c.args.map.now.store.items.items w.at.place c.next.new.self.at.place c.in-Some.item (vec_items c.loop-item.out)
          (vec_items c.push.new.self) c.in_ok-push.ensures.items (s.next (c.loop-item.invariant.0, rises)) (c.loop-item.invariant.1 rises),
    )

pub returns : goal.returns
returns g c =
    let w = c.loop-item.walker in
    λ rises. gather_all (end g.K.Key) c.args.map.now.store.items.items w.at.place (vec_items c.loop-item.out) (c.in_default.ensures.none (c.loop-item.invariant.0, rises)) (c.loop-item.invariant.1 rises)
