use Rattle.std.proofs.Common.{◌+◌, ◌-◌, ◌<◌, ◌≤◌, length}
use Rattle.ranges.specs.Parts.{span as ends}
use Rattle.rangemap.specs.Items.{spans}
use Rattle.rangemap.specs.Ranges.{slack}
use Rattle.rangemap.specs.Search.{Bracket, Rising}
use Rattle.rangemap.proofs.search.binary_search.Given as goal

abbrev pub invariant-loop-j : goal.invariant-loop-j
invariant-loop-j g l =
    (l.i < l.j) × (l.j ≤ length l.items) ×
    (Rising (spans g.K.Key l.items) → Bracket ((ends g.K.Key l.key.range).high + slack l.connected) (spans g.K.Key l.items) l.i l.j)

abbrev pub decreases-loop-j : goal.decreases-loop-j
decreases-loop-j g l = l.j - l.i
