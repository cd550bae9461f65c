use Rattle.std.proofs.Common.{◌≡◌, ◌+◌, ◌++◌, vec_items}
use Rattle.rangemap.specs.Maps.{RisesIn}
use Rattle.rangemap.specs.Walks.{past, end}
use Rattle.rangemap.proofs.map.walkers.all_ranges.Given as goal

abbrev pub invariant-loop-item : goal.invariant-loop-item
invariant-loop-item g l =
    (l.walker.at.place + l.walker.at.left ≡ g.K.Key.COUNT) ×
    (RisesIn g.K.Key l.map.store → vec_items l.out ++ past (end g.K.Key) l.walker.at.place l.map.store.items.items ≡ l.map.store.items.items)

abbrev pub decreases-loop-item : goal.decreases-loop-item
decreases-loop-item g l = l.walker.at.left
