use Rattle.rangemap.proofs.Turns.{InsertWalk}
use Rattle.rangemap.proofs.items.Items.walk.Given as goal

abbrev pub invariant-back : goal.invariant-back
invariant-back g l = InsertWalk g.K.Key g.V.Value.equals l.key.range l.value l.initial.self l.from l.self l.addr

abbrev pub decreases-back : goal.decreases-back
decreases-back g l = l.addr
