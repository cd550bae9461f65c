use Rattle.rangemap.proofs.Gives.{turned_before, turned_after, turned_split, turned_empty}
use Rattle.rangemap.proofs.items.Items.cut_item.Goals as goal

pub returns-in-Before-clause-turned : goal.returns-in-Before-clause-turned
returns-in-Before-clause-turned g c =
    rw c.set_at.ensures (turned_before g.K.Key c.args.self.now.items c.args.addr c.get_at-item.result c.requires.within c.get_at-item.ensures c.args.key.now.range c.args.key.now.held c.in-Before.key c.in-Before.ensures)

pub returns-in-After-clause-turned : goal.returns-in-After-clause-turned
returns-in-After-clause-turned g c =
    rw c.set_at-in-After.ensures (turned_after g.K.Key c.args.self.now.items c.args.addr c.get_at-item.result c.requires.within c.get_at-item.ensures c.args.key.now.range c.args.key.now.held c.in-After.key c.in-After.ensures)

pub returns-else-len-slots-clause-turned : goal.returns-else-len-slots-clause-turned
returns-else-len-slots-clause-turned g c =
    rw (c.insert_at.ensures, c.set_at-in-Split.ensures) (turned_split g.K.Key c.args.self.now.items c.args.addr c.get_at-item.result c.requires.within c.get_at-item.ensures c.args.key.now.range c.args.key.now.held c.in-Split.left c.in-Split.right c.in-Split.ensures)

pub returns-in-Empty-clause-turned : goal.returns-in-Empty-clause-turned
returns-in-Empty-clause-turned g c =
    rw c.remove_at.ensures.items (turned_empty g.K.Key c.args.self.now.items c.args.addr c.get_at-item.result c.requires.within c.get_at-item.ensures c.args.key.now.range c.args.key.now.held c.in-Empty.ensures)
