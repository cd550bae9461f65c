use Rattle.rangemap.proofs.Empties.{none_stored}
use Rattle.rangemap.proofs.map.RangeMap.without_slots.Goals as goal

pub returns : goal.returns
returns g c =
    let slots = c.in_ok-store.field-0 in
    (none_stored g.K.Key slots.store.items.items slots.empty, c.in_ok-store.ensures)
