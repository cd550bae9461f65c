use Rattle.std.proofs.Common.{◌∙◌}
use Rattle.rangemap.proofs.Changes.{left_put}
use Rattle.rangemap.proofs.items.Items.end_level.Goals as goal

pub returns-clause-later : goal.returns-clause-later
returns-clause-later g c x pos read =
    left_put g.K.Key g.V.Value.equals c.args.self.now c.drop_item-2.new.self c.args.at c.in-Some.prev c.drop_item-2.ensures.spans (c.in-Some.ensures ∙ c.address.ensures) c.requires.within c.put_item.new.self c.get_at-item.result x c.get_at-item.ensures read c.put_item.ensures.spans
