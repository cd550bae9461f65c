use Rattle.std.proofs.Common.{Some, None, refl, arith, rules}
use Rattle.rangemap.specs.Items.{Found, listed}
use Rattle.rangemap.specs.Ranges.{lo, hi}
use Rattle.rangemap.specs.Spans.{Tight}
use Rattle.rangemap.proofs.Changes.{Settled, settled_of, settled_object, settled_clear, settled_back, settled_level}
use Rattle.rangemap.proofs.Turns.{found_start}
use Rattle.rangemap.proofs.items.Items.change_walk.Goals as goal
use Rattle.rangemap.proofs.items.Items.change_walk.Goals.{After-settle-at}

-- the item's parts from the key's start on are settled
settled : (g : _) (c : After-settle-at g) → Tight g.V.Value.equals (listed g.K.Key c.args.self.now) → Found g.K.Key c.args.range.now.range c.args.self.now.items c.args.from → Settled g.K.Key g.V.Value.equals (lo g.K.Key c.args.range.now.range) (hi g.K.Key c.args.range.now.range) (g.C.Change.makes c.args.change.now) c.back.key (listed g.K.Key c.args.self.now) c.settle-at.new.self c.settle-at.result c.get_at-item.result c.product-product.result.before
settled g c tight found =
    let item = c.get_at-item.result in
    settled_of g.K.Key g.met.V.Value.lawful c.back.key item c.apply-blank.result c.apply-made.result c.back.self (c.back.invariant.stands tight found) tight c.back.invariant.within c.get_at-item.ensures (c.apply-blank.ensures None refl) (c.apply-made.ensures (Some item.value) (g.met.V.Value.lawful.refl item.value)) c.product-product.result c.product-product.ensures c.settle-at.new.self c.settle-at.result c.settle-at.ensures

pub back-init : goal.back-init
back-init g c = record {
  within = search rules;
  room = search rules;
  len = omega (arith, c.requires.within);
  stands = λ tight found. record { full = c.args.range.now.held; low = refl; high = omega arith; at = found_start g.K.Key g.met.V.Value.lawful c.args.range.now.range (g.C.Change.makes c.args.change.now) c.args.self.now.items c.args.from c.args.range.now.held tight found };
}

pub back-preserved : goal.back-preserved
back-preserved g c = record {
  within = search rules;
  room = search rules;
  len = grind arith;
  stands = λ tight found. settled_back g.K.Key g.met.V.Value.lawful (settled g (goal.at.back-preserved g c).After-settle-at tight found) c.drop_item-in-Some-Subject.new.self c.in-Some-Subject.part (rw (c.in-Some-Subject.is, c.in-Some-Subject.field-0-is) refl) c.in-Some.prev c.drop_item-in-Some-Subject.ensures.spans c.in-Some.ensures.0 c.settle-at.ensures.within c.in-Some.ensures.1;
}

pub returns-in-Some-Object-clause-changed : goal.returns-in-Some-Object-clause-changed
returns-in-Some-Object-clause-changed g c found tight =
    let t = settled g (goal.at.returns-in-Some-Object-clause-changed g c).After-settle-at tight found in
    settled_object g.K.Key g.met.V.Value.lawful t c.put_item.new.self c.in-Some-Object.part (rw (c.in-Some-Object.is, c.in-Some-Object.field-0-is) refl) c.put_item.ensures.spans

pub returns-in_default-clause-changed : goal.returns-in_default-clause-changed
returns-in_default-clause-changed g c found tight =
    let t = settled g (goal.at.returns-in_default-clause-changed g c).After-settle-at tight found in
    settled_clear g.K.Key g.met.V.Value.lawful t c.drop_item.new.self c.in-Some-Subject.part (rw (c.in-Some-Subject.is, c.in-Some-Subject.field-0-is) refl) c.apply-blank.result (c.apply-blank.ensures None refl) c.settle-at.ensures.within c.in_default.ensures c.put_made-at.new.self c.put_made-at.result c.put_made-at.ensures.steps c.drop_item.ensures.spans

pub returns-in-None-clause-changed : goal.returns-in-None-clause-changed
returns-in-None-clause-changed g c found tight =
    let t = settled g (goal.at.returns-in-None-clause-changed g c).After-settle-at tight found in
    settled_level g.K.Key g.met.V.Value.lawful t c.end_level.new.self c.in-None.is c.settle-at.ensures.within c.end_level.ensures.first c.end_level.ensures.later
