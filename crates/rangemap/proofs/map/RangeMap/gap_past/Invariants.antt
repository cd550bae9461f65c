use Rattle.std.proofs.Common.{◌+◌}
use Rattle.ranges.specs.Places.{low}
use Rattle.rangemap.proofs.Gapping.{LooksOn}
use Rattle.rangemap.proofs.map.RangeMap.gap_past.Given as goal

abbrev pub invariant-loop-item : goal.invariant-loop-item
invariant-loop-item g l = LooksOn g.K.Key l.self.store l.place (low g.K.Key l.start) (l.first + l.item-index)
