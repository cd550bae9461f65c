use Rattle.rangemap.proofs.Changes.{UpdateWalk}
use Rattle.rangemap.proofs.items.Items.change_walk.Given as goal

abbrev pub invariant-back : goal.invariant-back
invariant-back g l = UpdateWalk g.K.Key g.V.Value.equals (g.C.Change.makes l.change) l.range.range l.initial.self l.from l.key l.self l.addr

abbrev pub decreases-back : goal.decreases-back
decreases-back g l = l.addr
