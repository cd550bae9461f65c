use Rattle.std.proofs.Common.{map, vec_items, ap, ◌∙◌, arith}
use Rattle.std.proofs.lemmas.List.{map_push}
use Rattle.ledger.specs.Spans.{gaps}
use Rattle.ledger.proofs.Gaps.{gaps_rise}
use Rattle.rangemap.specs.Maps.{stored}
use Rattle.rangemap.specs.Walks.{gap_end, gap_of}
use Rattle.rangemap.proofs.Walking.{climbs_gaps, gather_none, gather_more, gather_all}
use Rattle.rangemap.proofs.map.walkers.all_gaps.Goals as goal

pub loop-gap-init : goal.loop-gap-init
loop-gap-init g c =
    let m = c.args.map.now.store in
    let G = gaps g.K.Key.COUNT (stored g.K.Key m) in
    let i = c.gaps-walker.ensures in (
      omega (arith, i.place, i.left),
      λ rises. gather_none gap_end G c.gaps-walker.result.at.place (map (gap_of g.K.Key) (vec_items c.in_ok-out.out)) i.place
          (ap (map (gap_of g.K.Key)) c.in_ok-out.ensures.items) (climbs_gaps 0 g.K.Key.COUNT G (gaps_rise 0 g.K.Key.COUNT (stored g.K.Key m) rises)),
    )

pub loop-gap-preserved : goal.loop-gap-preserved
loop-gap-preserved g c =
    let m = c.args.map.now.store in
    let w = c.loop-gap.walker in
    let s = c.in-Some.ensures in (
      s.total ∙ c.loop-gap.invariant.0,
      λ rises. gather_more gap_end (gaps g.K.Key.COUNT (stored g.K.Key m)) w.at.place c.next.new.self.at.place (gap_of g.K.Key c.in-Some.gap) (map (gap_of g.K.Key) (vec_items c.loop-gap.out))
          (map (gap_of g.K.Key) (vec_items c.push.new.self)) (ap (map (gap_of g.K.Key)) c.in_ok-push.ensures.items ∙ map_push (gap_of g.K.Key) (vec_items c.loop-gap.out) c.in-Some.gap)
          (s.next (c.loop-gap.invariant.0, rises)) (c.loop-gap.invariant.1 rises),
    )

pub returns : goal.returns
returns g c =
    let m = c.args.map.now.store in
    let w = c.loop-gap.walker in
    λ rises. gather_all gap_end (gaps g.K.Key.COUNT (stored g.K.Key m)) w.at.place (map (gap_of g.K.Key) (vec_items c.loop-gap.out)) (c.in_default.ensures.none (c.loop-gap.invariant.0, rises)) (c.loop-gap.invariant.1 rises)
