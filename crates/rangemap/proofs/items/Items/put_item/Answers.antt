use Rattle.std.proofs.Common.{refl, ap, ◌∙◌}
use Rattle.rangemap.specs.Items.{listed}
use Rattle.rangemap.proofs.Listed.{inserted_unjoined, set_unjoined}
use Rattle.rangemap.proofs.items.Items.put_item.Goals as goal

pub returns-in-Kept-clause-spans : goal.returns-in-Kept-clause-spans
returns-in-Kept-clause-spans g c =
    let apart = rw c.in-Kept.is at c.if-join_next.ensures.spans in
    rw c.in-Kept.is (ap (listed g.K.Key) c.insert_at.ensures ∙ rw (c.if-join_next.ensures.stays refl) (inserted_unjoined g.K.Key g.V.Value.equals c.args.self.now.items c.args.item.key c.args.item.value c.in-Kept.addr apart))

pub returns-in-Spent-clause-spans : goal.returns-in-Spent-clause-spans
returns-in-Spent-clause-spans g c =
    let apart = rw c.in-Spent.is at c.if-join_next.ensures.spans in
    let within = rw c.in-Spent.is at c.requires.within in
    rw c.in-Spent.is (ap (listed g.K.Key) c.set_at.ensures ∙ rw (c.if-join_next.ensures.stays refl) (set_unjoined g.K.Key g.V.Value.equals c.args.self.now.items c.args.item.key c.args.item.value c.in-Spent.addr within apart))
