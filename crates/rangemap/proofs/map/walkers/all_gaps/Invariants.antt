use Rattle.std.proofs.Common.{◌≡◌, ◌+◌, ◌++◌, map, vec_items}
use Rattle.ledger.specs.Spans.{gaps}
use Rattle.rangemap.specs.Maps.{stored, RisesIn}
use Rattle.rangemap.specs.Walks.{past, gap_end, gap_of}
use Rattle.rangemap.proofs.map.walkers.all_gaps.Given as goal

abbrev pub invariant-loop-gap : goal.invariant-loop-gap
invariant-loop-gap g l =
    (l.walker.at.place + l.walker.at.left ≡ g.K.Key.COUNT) ×
    (RisesIn g.K.Key l.map.store → map (gap_of g.K.Key) (vec_items l.out) ++ past gap_end l.walker.at.place (gaps g.K.Key.COUNT (stored g.K.Key l.map.store)) ≡ gaps g.K.Key.COUNT (stored g.K.Key l.map.store))

abbrev pub decreases-loop-gap : goal.decreases-loop-gap
decreases-loop-gap g l = l.walker.at.left
