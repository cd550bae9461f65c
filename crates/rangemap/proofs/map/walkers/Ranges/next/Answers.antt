use Rattle.std.proofs.Common.{◌≡◌, ◌<◌, ◌∷◌, get_or, length, sym, ◌∙◌, refl, subst, arith, ap}
use Rattle.rangemap.specs.Maps.{Ready}
use Rattle.rangemap.specs.Walks.{Walks, end, past}
use Rattle.rangemap.proofs.Walking.{ranges_next, ranges_none, ranges_reach}
use Rattle.rangemap.proofs.map.walkers.Ranges.next.Goals as goal
use Rattle.rangemap.proofs.map.walkers.Ranges.next.Goals.{After-past}

pub returns-in_err-item : goal.returns-in_err-item
returns-in_err-item g c =
    let m = c.args.map.now in
    let w = c.args.self.now.at in
    subst (λ r. Walks (end g.K.Key) (Ready g.K.Key m.store) m.store.items.items w.place w.left r w.place w.left) (sym c.from_residual.ensures) (record { place = refl; left = refl; none = λ ready. ranges_none g.K.Key m.store ready.1 w.place c.first_past.result (c.first_past.ensures.splits ready.1) (omega (arith, ap length c.as_slice.ensures, c.in_err-item.ensures.lookup.3)) })

-- the item was read at the index
index : (g : _) (c : After-past g) → c.first_past.result < length c.args.map.now.store.items.items
index g c = omega (arith, ap length c.as_slice.ensures, c.in_ok-item.ensures.lookup.3.0)

read : (g : _) (c : After-past g) → c.in_ok-item.field-0.now ≡ get_or c.args.map.now.store.items.items c.first_past.result c.in_ok-item.field-0.now
read g c = subst (λ xs. c.in_ok-item.field-0.now ≡ get_or xs c.first_past.result c.in_ok-item.field-0.now) c.as_slice.ensures c.in_ok-item.ensures.lookup.1

pub returns-in_err-move_to : goal.returns-in_err-move_to
returns-in_err-move_to g c =
    let m = c.args.map.now in
    let at = (goal.at.returns-in_err-move_to g c).After-past in
    let stays = c.in_err-move_to.ensures in
    rw (stays.0, c.from_residual-in_err-move_to.ensures)
    (record { place = refl; left = refl; none = λ ready. let r = ranges_reach g.K.Key m.store ready.1 c.args.self.now.at.place c.first_past.result (c.first_past.ensures.splits ready.1) c.in_ok-item.field-0.now (index g at) (read g at) in absurd (stays.1 (omega (arith, r.0, c.past.ensures)) (omega (arith, r.1, ready.0, c.past.ensures))) })

pub returns : goal.returns
returns g c =
    let m = c.args.map.now in
    let xs = m.store.items.items in
    let w = c.args.self.now.at in
    let x = c.in_ok-item.field-0.now in
    let at = (goal.at.returns g c).After-past in
    let step = c.in_ok-move_to.ensures in
    let moves = step.0 ∙ c.past.ensures in
    record {
      falls = step.1;
      total = omega (arith, step.0, step.2);
      moves = moves;
      next = λ ready. subst (λ q. past (end g.K.Key) w.place xs ≡ x ∷ past (end g.K.Key) q xs) (sym moves) (ranges_next g.K.Key m.store ready.1 w.place c.first_past.result (c.first_past.ensures.splits ready.1) x (index g at) (read g at));
    }
