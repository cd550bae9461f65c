use Rattle.std.proofs.Common.{ap, ◌∙◌}
use Rattle.rangemap.specs.Items.{listed}
use Rattle.rangemap.proofs.Listed.{spans_dropped}
use Rattle.rangemap.proofs.items.Items.drop_item.Goals as goal

pub returns-in-Spent-clause-spans : goal.returns-in-Spent-clause-spans
returns-in-Spent-clause-spans g c =
    rw c.in-Spent.is (ap (listed g.K.Key) c.remove_at.ensures.items ∙ spans_dropped g.K.Key c.args.self.now.items c.in-Spent.addr)
