use Rattle.std.proofs.Common.{refl, ◌≤◌, Some, arith, rules}
use Rattle.rangemap.specs.Ranges.{lo}
use Rattle.rangemap.specs.Spans.{Tight}
use Rattle.rangemap.specs.Items.{Found, listed}
use Rattle.rangemap.proofs.Turns.{Left, left_of, left_back, left_clear, left_before, found_start}
use Rattle.rangemap.proofs.Parts.{not_object}
use Rattle.rangemap.proofs.items.Items.walk.Goals as goal
use Rattle.rangemap.proofs.items.Items.walk.Goals.{After-settle_after-at}

-- the item has kept what it has after the key
left : (g : _) (c : After-settle_after-at g) → Tight g.V.Value.equals (listed g.K.Key c.args.self.now) → Found g.K.Key c.args.key.now.range c.args.self.now.items c.args.from → Left g.K.Key g.V.Value.equals c.args.key.now.range c.args.value (listed g.K.Key c.args.self.now) c.settle_after-at.new.self c.settle_after-at.result c.get_at-item.result c.product.result.before
left g c tight found =
    left_of g.K.Key g.met.V.Value.lawful c.args.key.now.range c.args.value c.get_at-item.result c.back.self c.args.key.now.held tight (c.back.invariant.stands tight found) c.back.invariant.within c.get_at-item.ensures c.product.result c.product.ensures c.settle_after-at.new.self c.settle_after-at.result c.settle_after-at.ensures.steps

pub back-init : goal.back-init
back-init g c = record {
  within = search rules;
  grows = search rules;
  stands = λ tight found. let start = found_start g.K.Key g.met.V.Value.lawful c.args.key.now.range (λ _. Some c.args.value) c.args.self.now.items c.args.from c.args.key.now.held tight found in (start.0, start.1);
}

pub back-preserved : goal.back-preserved
back-preserved g c = record {
  within = search rules;
  grows = search rules;
  stands = λ tight found. left_back g.K.Key g.met.V.Value.lawful (left g (goal.at.back-preserved g c).After-settle_after-at tight found) c.drop_item.new.self c.in-Some.prev c.drop_item.ensures.spans c.in-Some.ensures.0 c.settle_after-at.ensures.steps.within c.in-Some.ensures.1;
}

pub returns-in-Some-Object-clause-changed : goal.returns-in-Some-Object-clause-changed
returns-in-Some-Object-clause-changed g c found tight =
    let t = left g (goal.at.returns-in-Some-Object-clause-changed g c).After-settle_after-at tight found in
    left_before g.K.Key g.met.V.Value.lawful t c.put_before.new.self c.in-Some-Object.part (rw (c.in-Some-Object.is, c.in-Some-Object.field-0-is) refl) c.put_before.ensures.spans

pub returns-in_default-connected_before-clause-changed : goal.returns-in_default-connected_before-clause-changed
returns-in_default-connected_before-clause-changed g c found tight =
    let t = left g (goal.at.returns-in_default-connected_before-clause-changed g c).After-settle_after-at tight found in
    let starts : lo g.K.Key c.args.key.now.range ≤ lo g.K.Key c.get_at-item.result.key = not_object g.K.Key c.args.key.now.range c.get_at-item.result.key c.product.result.before t.before (λ r e. grind arith) in
    left_clear g.K.Key g.met.V.Value.lawful t c.put_item.new.self starts c.settle_after-at.ensures.steps.within c.in_default-connected_before.ensures c.put_item.ensures.spans
