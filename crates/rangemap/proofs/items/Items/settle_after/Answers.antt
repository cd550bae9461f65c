use Rattle.rangemap.proofs.Turns.{kept_steps}
use Rattle.rangemap.proofs.items.Items.settle_after.Goals as goal

pub returns-in-Some-Object-clause-steps : goal.returns-in-Some-Object-clause-steps
returns-in-Some-Object-clause-steps g c =
    rw (c.keep_part.ensures.at, c.in-Some-Object.is, c.in-Some-Object.field-0-is) (kept_steps g.K.Key c.args.self.now c.keep_part.new.self c.args.addr c.in-Some-Object.key c.args.value c.requires.within c.keep_part.ensures.items)
